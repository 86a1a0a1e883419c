-- Calls of the outside, one after the other.
use Rattle.std.proofs.Common.{List, [], ◌∷◌, ◌++◌, refl, subst}
use Rattle.std.specs.List.{AllByRecursion}
use Rattle.capture_parts.specs.Outside.{Call}
use Rattle.split_program.specs.Calls.{Did, DidOnly}

module _ {O F : Type 0} (does : O → Call F → O → Type 0) where
  pub did_none : (allowed : Call F → Type 0) (state : O) → DidOnly does allowed state state
  did_none allowed state = ([], refl, tt)

  pub did_one : (allowed : Call F → Type 0) (before after : O) (call : Call F) → allowed call → does before call after
      → DidOnly does allowed before after
  did_one allowed before after call may done = (call ∷ [], (after, done, refl), (may, tt))

  did-append : (before mid after : O) (calls more : List (Call F)) → Did does before calls mid
      → Did does mid more after → Did does before (calls ++ more) after
  did-append before mid after [] more same later = subst (λ o. Did does o more after) same later
  did-append before mid after (c ∷ cs) more (next, first, others) later =
      (next, first, did-append next mid after cs more others later)

  all-append : (allowed : Call F → Type 0) (calls more : List (Call F)) → AllByRecursion allowed calls
      → AllByRecursion allowed more → AllByRecursion allowed (calls ++ more)
  all-append allowed [] more all later = later
  all-append allowed (c ∷ cs) more (first, others) later = (first, all-append allowed cs more others later)

  pub did_both : (allowed : Call F → Type 0) (before mid after : O) → DidOnly does allowed before mid
      → DidOnly does allowed mid after → DidOnly does allowed before after
  did_both allowed before mid after (calls, did, all) (more, later, rest) =
      (calls ++ more, did-append before mid after calls more did later, all-append allowed calls more all rest)

  all-weaker : (allowed other : Call F → Type 0) → ((call : Call F) → allowed call → other call)
      → (calls : List (Call F)) → AllByRecursion allowed calls → AllByRecursion other calls
  all-weaker allowed other then [] all = tt
  all-weaker allowed other then (c ∷ cs) (first, others) = (then c first, all-weaker allowed other then cs others)

  pub did_more : (allowed other : Call F → Type 0) (before after : O)
      → ((call : Call F) → allowed call → other call) → DidOnly does allowed before after
      → DidOnly does other before after
  did_more allowed other before after then (calls, did, all) = (calls, did, all-weaker allowed other then calls all)
