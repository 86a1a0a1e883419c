-- The forward walk gives the steps of the definition, in order; it takes out a change before the next frame, or a frame
-- with the change that it brings.
use Rattle.std.proofs.{Common.All, lemmas.List.Elements.All-weaker}
use Rattle.stream_credit.proofs.{ChangeLemmas.drop-next, Words.Acknowledge, Words.AcknowledgesAt}
use Rattle.stream_credit.proofs.Words.{AllByRecursion, AreAcknowledged, AreFrom, AreInOrder, AreOrderlyFrom, Change}
use Rattle.stream_credit.proofs.Words.{Frame, IsBrought, IsOrderly, IsOrderlyFrom, List, None, Option, Some, StartsAt}
use Rattle.stream_credit.proofs.Words.{Step, [], ap, arith, change_step, drop, eq-eqb, frame_step, frame_with, le-ltb}
use Rattle.stream_credit.proofs.Words.{lt-ltb, map, merged, met_after, nat_tests, ne_eqb, recursion_from_All, refl}
use Rattle.stream_credit.proofs.Words.{steps_of, sym, with_change, ℕ, ◌+◌, ◌-◌, ◌<◌, ◌^◌, ◌∷◌, ◌≡◌, ◌≤◌}

-- ---- the walk is the definition's list

with_change-merged : (frames : List Frame) (change : Change) (changes : List Change)
    → AreOrderlyFrom (change.number + 1) changes
    → with_change (merged frames changes) change ≡ merged frames (change ∷ changes)
with_change-merged [] change [] h = refl
with_change-merged [] change (next ∷ changes) h = let above = h.0 in grind (arith, nat_tests)
with_change-merged (frame ∷ frames) change [] h = grind (arith, nat_tests, with_change-merged frames change [] h)
with_change-merged (frame ∷ frames) change (next ∷ changes) h =
    let above = h.0 in grind (arith, nat_tests, with_change-merged frames change (next ∷ changes) h)

merged-no_changes : (frames : List Frame) → merged frames [] ≡ map frame_step frames
merged-no_changes [] = refl
merged-no_changes (frame ∷ frames) = ap (λ steps. frame_step frame ∷ steps) (merged-no_changes frames)

pub steps_of-merged : (low : ℕ) (frames : List Frame) (changes : List Change) → AreOrderlyFrom low changes
    → steps_of frames changes ≡ merged frames changes
steps_of-merged low frames [] h = sym (merged-no_changes frames)
steps_of-merged low frames (change ∷ changes) h =
    grind (arith, nat_tests, steps_of-merged (change.number + 1) frames changes h.2, with_change-merged, h.2)

-- ---- the steps come in order

order-with : (low : ℕ) (steps : List Step) (change : Change) → low ≤ change.number → change.number ≤ 2 ^ 28 - 2
    → AreInOrder low steps → AreInOrder low (with_change steps change)
order-with low [] change least most h = (least, most, tt, tt)
order-with low (step ∷ steps) change least most h =
    let rest = order-with (step.number + 1) steps change in grind (arith, nat_tests)

order-frames : (low : ℕ) (frames : List Frame) → IsOrderlyFrom low frames → AreInOrder low (map frame_step frames)
order-frames low [] h = tt
order-frames low (frame ∷ frames) h = (h.0, omega (arith, h.1.number), refl, order-frames (frame.number + 1) frames h.2)

pub order-steps : (low : ℕ) (frames : List Frame) (changes : List Change) → IsOrderly frames
    → AreOrderlyFrom low changes → AreInOrder 0 (steps_of frames changes)
order-steps low frames [] o h = order-frames 0 frames o
order-steps low frames (change ∷ changes) o h =
    order-with 0 (steps_of frames changes) change (omega arith) (omega (arith, h.1))
    (order-steps (change.number + 1) frames changes o h.2)

-- ---- what the walk takes out

-- a change before the next frame
pub merged-change : (number : ℕ) (frames : List Frame) (change : Change) (changes : List Change)
    → StartsAt number frames → change.number < number
    → merged frames (change ∷ changes) ≡ change_step change ∷ merged frames changes
merged-change number [] change changes h below = refl
merged-change number (frame ∷ frames) change changes h below = grind (arith, nat_tests, ne_eqb, lt-ltb)

-- a frame before all changes
pub merged-first : (frame : Frame) (frames : List Frame) (changes : List Change) → AreFrom (frame.number + 1) changes
    → merged (frame ∷ frames) changes ≡ frame_step frame ∷ merged frames changes
merged-first frame frames [] h = refl
merged-first frame frames (change ∷ changes) h = grind (arith, nat_tests, ne_eqb, le-ltb)

-- a frame with the change that it brings, if it brings one
pub merged-brought : (frame : Frame) (frames : List Frame) (met : ℕ) (changes : List Change) (change : Option Change)
    → IsBrought frame.number met changes change → AreFrom frame.number (drop met changes)
    → merged (frame ∷ frames) (drop met changes)
    ≡ frame_with frame change ∷ merged frames (drop (met_after met change) changes)
merged-brought frame frames met changes None h from = merged-first frame frames (drop met changes) (h from)
merged-brought frame frames met changes (Some change) h from = grind (arith, nat_tests, drop-next, eq-eqb, h.0, h.1)

-- ---- acknowledgements, by recursion

pub acknowledge-all : (frames : List Frame) (changes : List Change) → AreAcknowledged frames changes
    → Acknowledge frames changes
acknowledge-all frames changes h =
    recursion_from_All (λ (frame : Frame). AllByRecursion (AcknowledgesAt frame) changes) frames
    (All-weaker (λ (frame : Frame). All (AcknowledgesAt frame) changes) _
    (λ frame. recursion_from_All (AcknowledgesAt frame) changes) frames h)
