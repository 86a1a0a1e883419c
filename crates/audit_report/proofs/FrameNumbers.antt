-- A frame is found by its number, since numbers rise.
use Rattle.std.proofs.Common.{◌≡◌, ◌≢◌, ℕ, zero, suc, ◌+◌, ◌<◌, false, List, [], ◌∷◌, length, get_or, refl}
use Rattle.std.proofs.Common.{◌^◌, arith, Bool, true, Some, None, if◌then◌else◌, nat_eq, eq-eqb, subst, sym}
use Rattle.std.proofs.Common.{option_map, unwrap_or}
use Rattle.std.specs.List.Sorted.{IsNonDecreasingBy, IsPartitionPoint}
use Rattle.std.{proofs.lemmas.Grind.common_steps, specs.Ordering.nat_cmp, specs.Ordering.ordering_index}
use Rattle.std.specs.declared.cmp.Ordering.TheVariants.{Less, Equal, Greater}
use Rattle.audit_terms.specs.{declared.frames.Frame.Frame, code.runs.Orderly.IsOrderly}
use Rattle.audit_terms.specs.code.runs.Orderly.{IsOrderlyFrom}
use Rattle.audit_terms.proofs.{FindingOrder.nat_level, KeySearch.key_missed}
use Rattle.audit_terms.proofs.OrderlyFrames.{number_at_least, numbers_rise}
use Rattle.audit_terms.specs.Timed.{frame_numbered, nanos_at}

-- the frame at an index is the one of its number
pub frame_numbered_at : (low : ℕ) (frames : List Frame) → IsOrderlyFrom low frames → (i : ℕ) (d : Frame)
    → i < length frames → frame_numbered frames (get_or frames i d).number ≡ Some (get_or frames i d)
frame_numbered_at low [] h i d l = absurd (omega arith)
frame_numbered_at low (x ∷ xs) h zero d l = rw (eq-eqb x.number x.number refl) refl
frame_numbered_at low (x ∷ xs) h (suc i) d l =
    grind (arith, common_steps, frame_numbered_at (x.number + 1) xs h.2 i d (omega arith), number_at_least, h.2)

-- a frame with the number, wherever it stands, is the one
pub frame_found : (frames : List Frame) (n i : ℕ) (f : Frame) → IsOrderly frames → i < length frames
    → f ≡ get_or frames i f → f.number ≡ n → Some f ≡ frame_numbered frames n
frame_found frames n i f orderly within here same =
    let at = subst (λ (g : Frame). frame_numbered frames g.number ≡ Some g) (sym here)
    (frame_numbered_at 0 frames orderly i f within) in
    sym (subst (λ (k : ℕ). frame_numbered frames k ≡ Some f) same at)

-- the time of a frame is in range, and so is 0
pub nanos_timely : (low : ℕ) (frames : List Frame) (n : ℕ) → IsOrderlyFrom low frames → nanos_at frames n < 2 ^ 63
nanos_timely low [] n h = omega arith
nanos_timely low (x ∷ xs) n h = either (nat_eq x.number n) (nanos_timely (x.number + 1) xs n h.2) where
  either : (b : Bool) → nanos_at xs n < 2 ^ 63
      → unwrap_or (option_map (λ (frame : Frame). frame.nanos) (if b then Some x else frame_numbered xs n)) 0 < 2 ^ 63
  either true rest = h.1.nanos
  either false rest = rest

-- there is none where no frame has the number
pub frame_numbered_none : (frames : List Frame) (n : ℕ)
    → ((i : ℕ) (d : Frame) → i < length frames → (get_or frames i d).number ≢ n) → frame_numbered frames n ≡ None
frame_numbered_none [] n h = refl
frame_numbered_none (x ∷ xs) n h =
    let here : x.number ≢ n = h zero x (omega arith) in
    let apart : nat_eq x.number n ≡ false = grind (arith, common_steps) in
    rw apart (frame_numbered_none xs n (λ i d l. h (suc i) d (omega arith)))

-- what a search by halving answers, where it finds the number
pub frame_numbered_found : (frames : List Frame) (n i : ℕ) (d : Frame) → IsOrderlyFrom 0 frames → i < length frames
    → ((e : Frame) → nat_cmp (get_or frames i e).number n ≡ Equal) → Some (get_or frames i d) ≡ frame_numbered frames n
frame_numbered_found frames n i d h l at = grind (arith, common_steps, nat_level, frame_numbered_at)

-- and where it does not
pub frame_numbered_missed : (frames : List Frame) (n i : ℕ) → IsOrderlyFrom 0 frames
    → (IsNonDecreasingBy (λ (y : Frame). ordering_index (nat_cmp y.number n)) frames
    → IsPartitionPoint (λ (y : Frame). nat_cmp y.number n ≡ Less) (λ (y : Frame). nat_cmp y.number n ≡ Greater) frames
    i)
    → None ≡ frame_numbered frames n
frame_numbered_missed frames n i h at =
    sym (frame_numbered_none frames n (key_missed (λ (y : Frame). y.number) frames n i at (numbers_rise 0 frames h)))
