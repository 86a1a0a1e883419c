-- The items of a connection's frames are those of the pass, and those of consecutive blocks join.
use Rattle.conn_scan.proofs.Terms.{◌≡◌, append_assoc, AllByRecursion, map-append, IsOrderlyFrom, items_with}
use Rattle.conn_scan.proofs.Terms.{ℕ, ◌+◌, ◌<◌, ◌≤◌, ◌==◌, List, [], ◌∷◌, ◌++◌, Some, None, refl, ◌∙◌, map, Frame, Item}
use Rattle.conn_scan.proofs.Terms.{false, Option, arith, list_any, nat_tests, Change, is_marked, change_at, item_with}
use Rattle.conn_scan.proofs.Terms.{each-append, each-weaker}
use Rattle.audit_terms.specs.code.runs.Changes.{changes_from}
use Rattle.std.specs.Option.{option_to_list}
use Rattle.std.proofs.Math.Bool.{or-false}
use Rattle.std.proofs.lemmas.List.Folds.{find-append, list_any-append}
use Rattle.audit_terms.specs.declared.settings.Settings.{Settings}
use Rattle.audit_terms.specs.InForce.{InForce, taken, change_taking, change_of, in_force_after}
use Rattle.audit_terms.specs.Pass.{PassState, pass_start, next}
use Rattle.audit_terms.specs.code.runs.States.{items_from}
use Rattle.conn_scan.specs.laws.Items.{ItemsAreThePass, ItemsOfBlocksJoin}

-- ---- changes and numbers beside a frame's own

-- changes with other numbers
abbrev LacksNumber : ℕ → List Change → Type 0
LacksNumber number changes = AllByRecursion (λ (change : Change). change.number ≡ number → ⊥) changes

find-lacking : (frame : Frame) (changes : List Change) → LacksNumber frame.number changes
    → change_at changes frame ≡ None
find-lacking frame [] h = refl
find-lacking frame (change ∷ changes) h = grind (arith, nat_tests, find-lacking frame changes h.1)

find-behind : (frame : Frame) (others changes : List Change) → LacksNumber frame.number others
    → change_at (others ++ changes) frame ≡ change_at changes frame
find-behind frame others changes h = rw (find-append, find-lacking frame others h) refl

find-before : (frame : Frame) (changes others : List Change) → LacksNumber frame.number others
    → change_at (changes ++ others) frame ≡ change_at changes frame
find-before frame [] others h = find-lacking frame others h
find-before frame (change ∷ changes) others h = grind (arith, find-before frame changes others h)

any-none : (number : ℕ) (numbers : List ℕ) → AllByRecursion (λ n. n ≡ number → ⊥) numbers
    → list_any (λ n. n == number) numbers ≡ false
any-none number [] h = refl
any-none number (n ∷ numbers) h = grind (arith, nat_tests, any-none number numbers h.1)

-- ---- the changes of the pass

-- the change of a frame has its number
taking-found : (frame : Frame) (settings : Option Settings) (others : List Change) → LacksNumber frame.number others
    → change_at (option_to_list (change_taking frame settings) ++ others) frame ≡ change_taking frame settings
taking-found frame None others h = find-lacking frame others h
taking-found frame (Some settings) others h = grind (arith, nat_tests)

taking-each : (P : ℕ → Type 0) (frame : Frame) (settings : Option Settings) → P frame.number
    → AllByRecursion (λ (change : Change). P change.number) (option_to_list (change_taking frame settings))
taking-each P frame None h = tt
taking-each P frame (Some settings) h = (h, tt)

-- frames from a number on bring no change below it
later-lack : (number low : ℕ) (now : InForce) (frames : List Frame) → number < low → IsOrderlyFrom low frames
    → LacksNumber number (changes_from now frames)
later-lack number low now [] lt h = tt
later-lack number low now (frame ∷ frames) lt h =
    each-append (λ (change : Change). change.number ≡ number → ⊥) (option_to_list (change_of now frame)) _
    (taking-each (λ n. n ≡ number → ⊥) frame (taken now frame) (λ e. absurd (omega (arith, h.0, e))))
    (later-lack number (frame.number + 1) (in_force_after now frame) frames (omega (arith, h.0)) h.2)

-- numbers below all of some frames
abbrev AllBelow : ℕ → List Change → Type 0
AllBelow low changes = AllByRecursion (λ (change : Change). change.number < low) changes

-- the items of the frames that are left, where some changes stand before theirs
items-from : (state : PassState) (low : ℕ) (opened : List ℕ) (before : List Change) (frames : List Frame)
    → IsOrderlyFrom low frames → AllBelow low before
    → AllByRecursion (λ (item : Item). is_marked opened item.frame ≡ item.opens) (items_from state frames)
    → items_with opened (before ++ changes_from state.in_force frames) frames ≡ items_from state frames
items-from state low opened before [] h below marked = refl
items-from state low opened before (frame ∷ frames) h below marked =
    let own = option_to_list (change_of state.in_force frame) in
    let rest = changes_from (in_force_after state.in_force frame) frames in
    let behind = find-behind frame before (own ++ rest)
    (each-weaker _ _ (λ change lt e. absurd (omega (arith, h.0, lt, e))) before below) in
    let found = taking-found frame (taken state.in_force frame) rest
    (later-lack frame.number (frame.number + 1) (in_force_after state.in_force frame) frames (omega arith) h.2) in
    let later = items-from (next state frame) (frame.number + 1) opened (before ++ own) frames h.2
    (each-append (λ (change : Change). change.number < frame.number + 1) before own
    (each-weaker _ _ (λ change lt. omega (arith, h.0, lt)) before below)
    (taking-each (λ n. n < frame.number + 1) frame (taken state.in_force frame) (omega arith))) marked.1 in
    let rest = rw append_assoc at later in
    λ i. record { frame = frame; opens = marked.0 i; change = (behind ∙ found) i } ∷ rest i

pub items_are_the_pass : ItemsAreThePass
items_are_the_pass frames opened orderly marked = items-from pass_start 0 opened [] frames orderly tt marked

-- ---- two blocks

map-alike : {X Y : Type 0} (f g : X → Y) (xs : List X) → AllByRecursion (λ x. f x ≡ g x) xs → map f xs ≡ map g xs
map-alike f g [] h = refl
map-alike f g (x ∷ xs) h = let first = h.0 in let rest = map-alike f g xs h.1 in cc

pub items_of_blocks_join : ItemsOfBlocksJoin
items_of_blocks_join number opened opened' changes changes' frames frames' o c f =
    rw (
      map-append,
      map-alike _ _ frames (each-weaker _ _ first frames f.below),
      map-alike _ _ frames' (each-weaker _ _ later frames' f.above),
    ) refl where
      first : (frame : Frame) → frame.number < number
          → item_with (opened ++ opened') (changes ++ changes') frame ≡ item_with opened changes frame
      first frame lt =
          let other : (n : ℕ) → number ≤ n → n ≡ frame.number → ⊥ = λ n le e. absurd (omega (arith, lt, le, e)) in
          let none = any-none frame.number opened' (each-weaker _ _ (λ n le. other n le) opened' o.above) in
          let found = find-before frame changes changes' (each-weaker _ _ (λ change le. other _ le) changes' c.above) in
          rw (list_any-append, none, or-false, found) refl

      later : (frame : Frame) → number ≤ frame.number
          → item_with (opened ++ opened') (changes ++ changes') frame ≡ item_with opened' changes' frame
      later frame le =
          let other : (n : ℕ) → n < number → n ≡ frame.number → ⊥ = λ n lt e. absurd (omega (arith, lt, le, e)) in
          let none = any-none frame.number opened (each-weaker _ _ (λ n lt. other n lt) opened o.below) in
          let found = find-behind frame changes changes' (each-weaker _ _ (λ change lt. other _ lt) changes c.below) in
          rw (list_any-append, none, found) refl
