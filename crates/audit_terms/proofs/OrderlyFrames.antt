-- Orderly frames, and whatever else has rising numbers.
use Rattle.audit_terms.specs.code.runs.{Changes.AreOrderlyFrom, Orderly.IsInRange, Orderly.IsOrderlyFrom}
use Rattle.audit_terms.specs.declared.{frames.Frame.Frame, items.Change.Change}
use Rattle.std.proofs.Common.{Bool, List, [], ap, arith, drop, filter, get_or, length, suc, sym, zero, ℕ, ◌+◌, ◌<◌, ◌^◌}
use Rattle.std.proofs.Common.{take, ◌∙◌, ◌∷◌, ◌≡◌, ◌≤◌}
use Rattle.std.proofs.{lemmas.Grind.common_steps, lemmas.List.drop_more}
use Rattle.std.specs.Ordering.{nat_cmp, ordering_index}

module _ {X : Type 0} (number : X → ℕ) where
  -- each number above the one before it, the first `low` or above
  abbrev pub RiseFrom : (low : ℕ) → List X → Type 0
  RiseFrom low [] = Unit {0}
  RiseFrom low (x ∷ xs) = (low ≤ number x) × RiseFrom (number x + 1) xs

  rise-least : (low : ℕ) (xs : List X) → RiseFrom low xs → (i : ℕ) (d : X) → i < length xs
      → low ≤ number (get_or xs i d)
  rise-least low [] h i d l = absurd (omega arith)
  rise-least low (x ∷ xs) h zero d l = h.0
  rise-least low (x ∷ xs) h (suc i) d l = omega (arith, rise-least (number x + 1) xs h.1 i d (omega arith), h.0)

  rise-order : (low : ℕ) (xs : List X) → RiseFrom low xs → (i j : ℕ) (d : X) → i ≤ j → j < length xs
      → number (get_or xs i d) ≤ number (get_or xs j d)
  rise-order low [] h i j d le l = absurd (omega arith)
  rise-order low (x ∷ xs) h zero zero d le l = omega arith
  rise-order low (x ∷ xs) h zero (suc j) d le l = omega (arith, rise-least (number x + 1) xs h.1 j d (omega arith))
  rise-order low (x ∷ xs) h (suc i) zero d le l = absurd (omega arith)
  rise-order low (x ∷ xs) h (suc i) (suc j) d le l = rise-order (number x + 1) xs h.1 i j d (omega arith) (omega arith)

-- ---- frames

frames-rise : (low : ℕ) (frames : List Frame) → IsOrderlyFrom low frames → RiseFrom (λ (f : Frame). f.number) low frames
frames-rise low [] h = tt
frames-rise low (frame ∷ frames) h = (h.0, frames-rise (frame.number + 1) frames h.2)

-- each frame's number is at least the bound
pub number_at_least : (low : ℕ) (frames : List Frame) → IsOrderlyFrom low frames → (i : ℕ) (d : Frame)
    → i < length frames → low ≤ (get_or frames i d).number
number_at_least low frames h = rise-least (λ (f : Frame). f.number) low frames (frames-rise low frames h)

-- numbers rise with the index
pub numbers_rise : (low : ℕ) (frames : List Frame) → IsOrderlyFrom low frames → (i j : ℕ) (d : Frame) → i ≤ j
    → j < length frames → (get_or frames i d).number ≤ (get_or frames j d).number
numbers_rise low frames h = rise-order (λ (f : Frame). f.number) low frames (frames-rise low frames h)

pub in_range_at : (low : ℕ) (frames : List Frame) → IsOrderlyFrom low frames → (i : ℕ) (d : Frame) → i < length frames
    → IsInRange (get_or frames i d)
in_range_at low [] h i d l = absurd (omega arith)
in_range_at low (x ∷ xs) h zero d l = h.1
in_range_at low (x ∷ xs) h (suc i) d l = in_range_at (x.number + 1) xs h.2 i d (omega arith)

-- there are not more frames than numbers
pub length-orderly : (low : ℕ) (frames : List Frame) → low < 2 ^ 28 → IsOrderlyFrom low frames
    → low + length frames < 2 ^ 28
length-orderly low [] p h = omega arith
length-orderly low (frame ∷ frames) p h =
    let r = h.1.number in omega (arith, length-orderly (frame.number + 1) frames (omega arith) h.2)

-- orderly from an earlier number on
pub orderly-earlier : (low high : ℕ) (frames : List Frame) → low ≤ high → IsOrderlyFrom high frames
    → IsOrderlyFrom low frames
orderly-earlier low high [] l h = tt
orderly-earlier low high (frame ∷ frames) l h = (omega (arith, h.0), h.1, h.2)

-- fronts and rests are orderly
pub orderly-take : (low n : ℕ) (frames : List Frame) → IsOrderlyFrom low frames → IsOrderlyFrom low (take n frames)
orderly-take low zero frames h = tt
orderly-take low (suc n) [] h = tt
orderly-take low (suc n) (frame ∷ frames) h = (h.0, h.1, orderly-take (frame.number + 1) n frames h.2)

pub orderly-drop : (low n : ℕ) (frames : List Frame) → IsOrderlyFrom low frames → IsOrderlyFrom low (drop n frames)
orderly-drop low zero frames h = h
orderly-drop low (suc n) [] h = tt
orderly-drop low (suc n) (frame ∷ frames) h =
    orderly-earlier low (frame.number + 1) _ (omega (arith, h.0)) (orderly-drop (frame.number + 1) n frames h.2)

pub orderly-filter : (test : Frame → Bool) (low : ℕ) (frames : List Frame) → IsOrderlyFrom low frames
    → IsOrderlyFrom low (filter test frames)
orderly-filter test low [] h = tt
orderly-filter test low (frame ∷ frames) h =
    grind (arith, orderly-earlier low (frame.number + 1), orderly-filter test (frame.number + 1) frames h.2)

-- ---- changes

changes-rise : (low : ℕ) (changes : List Change) → AreOrderlyFrom low changes
    → RiseFrom (λ (c : Change). c.number) low changes
changes-rise low [] h = tt
changes-rise low (change ∷ changes) h = (h.0, changes-rise (change.number + 1) changes h.2)

pub changes_rise : (low : ℕ) (changes : List Change) → AreOrderlyFrom low changes → (i j : ℕ) (d : Change) → i ≤ j
    → j < length changes → (get_or changes i d).number ≤ (get_or changes j d).number
changes_rise low changes h = rise-order (λ (c : Change). c.number) low changes (changes-rise low changes h)

-- ---- what is left of a list, and a search for a number

pub drop-at : {X : Type 0} (xs : List X) (i : ℕ) (x : X) → x ≡ get_or xs i x → i < length xs
    → drop i xs ≡ x ∷ drop (i + 1) xs
drop-at xs i x is l = drop_more xs i x l ∙ ap (λ y. y ∷ drop (i + 1) xs) (sym is)

pub ranks_rise : (a b n : ℕ) → a ≤ b → ordering_index (nat_cmp a n) ≤ ordering_index (nat_cmp b n)
ranks_rise a b n le = grind (arith, common_steps)
