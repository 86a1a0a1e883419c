-- The steps of some frames and some changes are these frames and these changes, joined.
use Rattle.std.proofs.Common.{◌≡◌, List, None, Option, Some, [], ap, arith, is_some, map, refl, sym, true, ℕ, ◌++◌, ◌+◌}
use Rattle.std.proofs.Common.{◌<◌, ◌∙◌, ◌∷◌}
use Rattle.audit_core.proofs.Words.{flat_map, option_to_list, AllByRecursion, map-map, meets, InForce, taken}
use Rattle.audit_core.proofs.Words.{change_taking, in_force_after, initial_in_force, changes_from, changes_of}
use Rattle.audit_core.proofs.Words.{IsOrderlyFrom, frame_step, with_change, steps_of, frames_of, Frame, Change, Step}
use Rattle.audit_core.proofs.Words.{Settings, EachPair, StreamsHaveSteps, AreRising, HasFrameOrChange}
use Rattle.audit_core.proofs.Words.{StepsJoinFramesAndChanges, or-true, nat_tests, each-weaker}
use Rattle.audit_terms.proofs.Pairs.{all-before_map, pairs-mapped, pairs-filter, all-mapped}
use Rattle.audit_core.proofs.StreamSteps.{with_change-cases, all-with, all-steps, all-numbers, all-change_numbers}

abbrev step_numbers : List Step → List ℕ
step_numbers steps = map (λ (step : Step). step.number) steps

abbrev frames_in : List Step → List Frame
frames_in steps = flat_map (λ (step : Step). option_to_list step.frame) steps

abbrev changes_in : List Step → List Change
changes_in steps = flat_map (λ (step : Step). option_to_list step.change) steps

-- where the step has a change, it stands above this number
abbrev IsChangedAbove : (number : ℕ) → Step → Type 0
IsChangedAbove number step = is_some step.change ≡ true → number < step.number

-- ---- one more change among some steps

module _ (change : Change) where
  rising-with : (steps : List Step) → AreRising (step_numbers steps)
      → AreRising (step_numbers (with_change steps change))
  rising-with [] h = (tt, tt)
  rising-with (step ∷ steps) h =
      with_change-cases (λ l. AreRising (step_numbers l)) change step steps (λ e. h) (λ e. (
        (e, each-weaker (λ n. step.number < n) (λ n. change.number < n) (λ n q. omega arith) (step_numbers steps) h.0),
        h,
      )) (λ e. (above e, rising-with steps h.1)) where
        above : step.number < change.number →
            AllByRecursion (λ n. step.number < n) (step_numbers (with_change steps change))
        above e =
            all-mapped (λ n. step.number < n) (λ (one : Step). one.number) _
            (all-with (λ one. step.number < one.number) (λ c one f new old. old) change steps e
            (all-before_map (λ n. step.number < n) (λ (one : Step). one.number) steps h.0))

  frames-with : (steps : List Step) → frames_in (with_change steps change) ≡ frames_in steps
  frames-with [] = refl
  frames-with (step ∷ steps) = grind (arith, nat_tests, frames-with steps)

  changes-with : (steps : List Step) → AllByRecursion (IsChangedAbove change.number) steps
      → changes_in (with_change steps change) ≡ change ∷ changes_in steps
  changes-with [] h = refl
  changes-with (step ∷ steps) h = let rest = changes-with steps h.1 in grind (arith, nat_tests, h.0)

-- ---- the steps of frames alone

frame_steps-frames : (frames : List Frame) → frames_in (map frame_step frames) ≡ frames
frame_steps-frames [] = refl
frame_steps-frames (frame ∷ frames) = ap (λ l. frame ∷ l) (frame_steps-frames frames)

frame_steps-changes : (frames : List Frame) → changes_in (map frame_step frames) ≡ []
frame_steps-changes [] = refl
frame_steps-changes (frame ∷ frames) = frame_steps-changes frames

of_frames : (P : Step → Type 0) → ((frame : Frame) → P (frame_step frame)) → (frames : List Frame)
    → AllByRecursion (λ frame. P (frame_step frame)) frames
of_frames P p [] = tt
of_frames P p (frame ∷ frames) = (p frame, of_frames P p frames)

filled : (frame : Frame) → HasFrameOrChange (frame_step frame)
filled frame = record { has_one = refl; frame = refl; change = tt }

-- ---- all changes

pub steps_join_lem : StepsJoinFramesAndChanges
steps_join_lem frames [] rising changing = record {
  rising = rw (map-map (λ (step : Step). step.number) frame_step frames) rising;
  filled = all-mapped HasFrameOrChange frame_step frames (of_frames HasFrameOrChange filled frames);
  its_frames = frame_steps-frames frames;
  its_changes = frame_steps-changes frames;
}
steps_join_lem frames (change ∷ changes) rising changing =
    let steps = steps_of frames changes in
    let joined = steps_join_lem frames changes rising changing.1 in
    let above =
    all-steps (IsChangedAbove change.number) (λ c step e new old f. rw e (new refl)) frames changes
    (of_frames (IsChangedAbove change.number) (λ frame e. cc) frames)
    (each-weaker (λ (c : Change). change.number < c.number) _ (λ c p e. p) changes
    (all-before_map (λ n. change.number < n) (λ (c : Change). c.number) changes changing.0)) in record {
      rising = rising-with change steps joined.rising;
      filled = all-with HasFrameOrChange
          (λ c step e new old. record { has_one = or-true _; frame = old.frame; change = sym e }) change steps
          (record { has_one = refl; frame = tt; change = refl }) joined.filled;
      its_frames = frames-with change steps ∙ joined.its_frames;
      its_changes = changes-with change steps above ∙ ap (λ l. change ∷ l) joined.its_changes;
    }

-- ---- the frames of a stream and the changes of a connection

frames-rising : (low : ℕ) (frames : List Frame) → IsOrderlyFrom low frames
    → EachPair (λ (f g : Frame). f.number < g.number) frames
frames-rising low [] h = tt
frames-rising low (frame ∷ frames) h = (
  all-numbers (λ n. frame.number < n) (frame.number + 1) frames (λ m l. omega arith) h.2,
  frames-rising (frame.number + 1) frames h.2,
)

changes-rising : (low : ℕ) (now : InForce) (frames : List Frame) → IsOrderlyFrom low frames
    → EachPair (λ (a b : Change). a.number < b.number) (changes_from now frames)
changes-rising low now [] h = tt
changes-rising low now (frame ∷ frames) h =
    by_taken (taken now frame) _ (changes-rising (frame.number + 1) (in_force_after now frame) frames h.2)
    (all-change_numbers (λ n. frame.number < n) (frame.number + 1) (in_force_after now frame) frames
    (λ m l. omega arith) h.2) where
      by_taken : (o : Option Settings) (later : List Change) → EachPair (λ (a b : Change). a.number < b.number) later
          → AllByRecursion (λ (change : Change). frame.number < change.number) later
          → EachPair (λ (a b : Change). a.number < b.number) (option_to_list (change_taking frame o) ++ later)
      by_taken None later h all = h
      by_taken (Some settings) later h all = (all, h)

pub streams_have_steps_lem : StreamsHaveSteps
streams_have_steps_lem stream frames h =
    steps_join_lem (frames_of stream frames) (changes_of frames) (pairs-mapped ◌<◌ (λ (frame : Frame). frame.number) _
    (pairs-filter (λ (f g : Frame). f.number < g.number) (meets stream) frames (frames-rising 0 frames h)))
    (pairs-mapped ◌<◌ (λ (change : Change). change.number) _ (changes-rising 0 initial_in_force frames h))
