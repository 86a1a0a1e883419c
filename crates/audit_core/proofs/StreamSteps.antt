-- The steps of one stream are those frames of the connection at which it has a frame or a change is brought.
use Rattle.std.proofs.Common.{Bool, List, None, Option, Some, arith, if◌then◌else◌, ltb-true, refl, ◌++◌}
use Rattle.std.proofs.Common.{[], ℕ, ◌+◌, ◌<◌, ◌∷◌, ◌≡◌, ◌≤◌}
use Rattle.audit_core.proofs.Words.{AllByRecursion, in_force_after, option_to_list}
use Rattle.audit_terms.proofs.Pairs.{all-mapped}
use Rattle.audit_core.proofs.Words.{Change, Frame, InForce, Step, meets, step_of, steps_of, taken}
use Rattle.audit_core.proofs.Words.{IsOrderlyFrom, change_step, change_taking, changes_from, each-append, each-filter}
use Rattle.audit_core.proofs.Words.{Settings, change_of, frame_step, frames_of, nat_tests, with_change}

-- ---- one more change among some steps

-- where a change goes: to the step of its number, before a step, or further on
pub with_change-cases : (P : List Step → Type 0) (change : Change) (step : Step) (steps : List Step)
    → (step.number ≡ change.number → P (record step { change = Some change } ∷ steps))
    → (change.number < step.number → P (change_step change ∷ step ∷ steps))
    → (step.number < change.number → P (step ∷ with_change steps change)) → P (with_change (step ∷ steps) change)
with_change-cases P change step steps same before after = grind (arith, nat_tests, ltb-true, after)

-- what holds of steps of frames alone and of changes alone, and of both together, holds of all steps
module _ (P : Step → Type 0) (joined : (change : Change) (step : Step) → step.number ≡ change.number →
    P (change_step change) → P step → P (record step { change = Some change })) where
  pub all-with : (change : Change) (steps : List Step) → P (change_step change) → AllByRecursion P steps
      → AllByRecursion P (with_change steps change)
  all-with change [] new h = (new, tt)
  all-with change (step ∷ steps) new h =
      with_change-cases (AllByRecursion P) change step steps (λ e. (joined change step e new h.0, h.1))
      (λ e. (new, h)) (λ e. (h.0, all-with change steps new h.1))

  pub all-steps : (frames : List Frame) (changes : List Change) → AllByRecursion (λ frame. P (frame_step frame)) frames
      → AllByRecursion (λ change. P (change_step change)) changes → AllByRecursion P (steps_of frames changes)
  all-steps frames [] h new = all-mapped P frame_step frames h
  all-steps frames (change ∷ changes) h new =
      all-with change (steps_of frames changes) new.0 (all-steps frames changes h new.1)

-- ---- numbers of orderly frames, and of the changes that they bring

module _ (P : ℕ → Type 0) where
  pub all-numbers : (low : ℕ) (frames : List Frame) → ((m : ℕ) → low ≤ m → P m) → IsOrderlyFrom low frames
      → AllByRecursion (λ (frame : Frame). P frame.number) frames
  all-numbers low [] p h = tt
  all-numbers low (frame ∷ frames) p h =
      (p frame.number h.0, all-numbers (frame.number + 1) frames (λ m l. p m (omega (arith, h.0))) h.2)

  pub all-change_numbers : (low : ℕ) (now : InForce) (frames : List Frame) → ((m : ℕ) → low ≤ m → P m)
      → IsOrderlyFrom low frames → AllByRecursion (λ (change : Change). P change.number) (changes_from now frames)
  all-change_numbers low now [] p h = tt
  all-change_numbers low now (frame ∷ frames) p h =
      each-append (λ (change : Change). P change.number) (option_to_list (change_of now frame)) _
      (by_taken (taken now frame))
      (all-change_numbers (frame.number + 1) (in_force_after now frame) frames (λ m l. p m (omega (arith, h.0))) h.2)
    where
      by_taken : (o : Option Settings) →
          AllByRecursion (λ (change : Change). P change.number) (option_to_list (change_taking frame o))
      by_taken None = tt
      by_taken (Some settings) = (p frame.number h.0, tt)

-- ---- the steps of a stream

-- the steps at which something is there
abbrev pub step_if_any : Step → List Step
step_if_any step = any step.frame step.change where
  any : Option Frame → Option Change → List Step
  any None None = []
  any _ _ = step ∷ []

abbrev pub steps_from : (stream : ℕ) → InForce → List Frame → List Step
steps_from stream now [] = []
steps_from stream now (frame ∷ frames) =
    step_if_any (step_of now frame stream) ++ steps_from stream (in_force_after now frame) frames

-- a change before all steps comes first
with_change-first : (steps : List Step) (change : Change)
    → AllByRecursion (λ (step : Step). change.number + 1 ≤ step.number) steps
    → with_change steps change ≡ change_step change ∷ steps
with_change-first [] change h = refl
with_change-first (step ∷ steps) change h = grind (arith, nat_tests, h.0)

-- a frame before all changes comes first
steps_of-first : (frame : Frame) (frames : List Frame) (changes : List Change)
    → AllByRecursion (λ (change : Change). frame.number + 1 ≤ change.number) changes
    → steps_of (frame ∷ frames) changes ≡ frame_step frame ∷ steps_of frames changes
steps_of-first frame frames [] h = refl
steps_of-first frame frames (change ∷ changes) h =
    let rest = steps_of-first frame frames changes h.1 in grind (arith, nat_tests, h.0)

-- the steps of a stream's frames and all changes are those of the connection's frames at which something is there
pub steps_of-steps_from : (low stream : ℕ) (now : InForce) (frames : List Frame) → IsOrderlyFrom low frames
    → steps_of (frames_of stream frames) (changes_from now frames) ≡ steps_from stream now frames
steps_of-steps_from low stream now [] h = refl
steps_of-steps_from low stream now (frame ∷ frames) h =
    by_cases (meets stream frame) (taken now frame) (frames_of stream frames) (changes_from after frames)
    (each-filter (λ (other : Frame). frame.number + 1 ≤ other.number) (meets stream) frames
    (all-numbers (λ n. frame.number + 1 ≤ n) (frame.number + 1) frames (λ m l. l) h.2))
    (all-change_numbers (λ n. frame.number + 1 ≤ n) (frame.number + 1) after frames (λ m l. l) h.2)
    (steps_from stream after frames) (steps_of-steps_from (frame.number + 1) stream after frames h.2) where
      after : InForce
      after = in_force_after now frame

      by_cases : (met : Bool) (o : Option Settings) (own : List Frame) (changes : List Change)
          → AllByRecursion (λ (other : Frame). frame.number + 1 ≤ other.number) own
          → AllByRecursion (λ (change : Change). frame.number + 1 ≤ change.number) changes
          → (later : List Step) → steps_of own changes ≡ later
          → steps_of (if met then frame ∷ own else own) (option_to_list (change_taking frame o) ++ changes)
          ≡ step_if_any (record {
            number = frame.number;
            frame = (if met then Some frame else None);
            change = change_taking frame o;
          }) ++ later
      by_cases met o own changes p q later ih =
          let first = steps_of-first frame own changes q in
          let alone : (change : Change) → change.number ≡ frame.number
          → with_change (steps_of own changes) change ≡ change_step change ∷ steps_of own changes =
          λ change e. with_change-first (steps_of own changes) change
          (all-steps (λ step. change.number + 1 ≤ step.number) (λ _ _ e n m. m) own changes (rw e p) (rw e q)) in
          grind (arith, nat_tests)
