-- What holds of each element of a list, when lists are joined, put in order or filtered.
use Rattle.std.{proofs.lemmas.Bool.cond_both, specs.List.AllByRecursion}
use Rattle.std.proofs.Common.{Bool, List, [], false, filter, true, ◌++◌, ◌∷◌}
use Rattle.audit_terms.specs.{Order.ordered_by, Order.put_by, declared.findings.Finding.Finding}
use Rattle.audit_terms.specs.Finding.{comes_after, in_order, say}

module _ {X : Type 0} (P : X → Type 0) where
  pub each-append : (a b : List X) → AllByRecursion P a → AllByRecursion P b → AllByRecursion P (a ++ b)
  each-append [] b h k = k
  each-append (x ∷ a) b h k = (h.0, each-append a b h.1 k)

  pub each-put : (after : X → X → Bool) (x : X) (a : List X) → P x → AllByRecursion P a
      → AllByRecursion P (put_by after x a)
  each-put after x [] h k = (h, tt)
  each-put after x (y ∷ a) h k =
      cond_both (after x y) _ _ (AllByRecursion P) (λ _. (k.0, each-put after x a h k.1)) (λ _. (h, k))

  pub each-ordered : (after : X → X → Bool) (a : List X) → AllByRecursion P a → AllByRecursion P (ordered_by after a)
  each-ordered after [] h = tt
  each-ordered after (x ∷ a) h = each-put after x (ordered_by after a) h.0 (each-ordered after a h.1)

  pub each-filter : (test : X → Bool) (a : List X) → AllByRecursion P a → AllByRecursion P (filter test a)
  each-filter test [] h = tt
  each-filter test (x ∷ a) h =
      let rest = each-filter test a h.1 in
      cond_both (test x) _ _ (AllByRecursion P) (λ _. (h.0, rest)) (λ _. rest)

  pub each-weaker : (Q : X → Type 0) → ((x : X) → P x → Q x) → (a : List X) → AllByRecursion P a → AllByRecursion Q a
  each-weaker Q f [] h = tt
  each-weaker Q f (x ∷ a) h = (f x h.0, each-weaker Q f a h.1)

pub each-said : (P : Finding → Type 0) (b : Bool) (found : Finding) → P found → AllByRecursion P (say b found)
each-said P true found p = (p, tt)
each-said P false found p = tt

pub each-in_order : (P : Finding → Type 0) (a : List Finding) → AllByRecursion P a → AllByRecursion P (in_order a)
each-in_order P = each-ordered P comes_after
