-- What a stream shows by itself stands in order.
use Rattle.audit_rounds.proofs.Words.{◌≡◌, ℕ, ◌+◌, ◌^◌, ◌<◌, ◌≤◌, Bool, List, [], ◌∷◌, map, arith, Sides, Frame, Change}
use Rattle.audit_rounds.proofs.Words.{Step, Stream, in_order, shown, IsOrderly, IsOrderlyFrom, initial_in_force}
use Rattle.audit_rounds.proofs.Words.{stream_run, idle_stream, stream_after, stream_said, initial_after}
use Rattle.audit_terms.specs.code.runs.Streams.{frame_step, with_change, steps_of, stream_run_from}
use Rattle.audit_terms.proofs.SaidPlaces.{at-stream}
use Rattle.audit_core.proofs.StreamSteps.{with_change-cases}
use Rattle.audit_rounds.proofs.Jobs.{StandFrom, ordered-shown, step-ordered}

-- each number above the one before it, the first `low` or above
abbrev RiseFrom : (low : ℕ) → List Step → Type 0
RiseFrom low [] = Unit {0}
RiseFrom low (step ∷ steps) = (low ≤ step.number) × RiseFrom (step.number + 1) steps

frames-rise : (low : ℕ) (frames : List Frame) → IsOrderlyFrom low frames → RiseFrom low (map frame_step frames)
frames-rise low [] h = tt
frames-rise low (frame ∷ frames) h = (h.0, frames-rise (frame.number + 1) frames h.2)

change-rises : (low : ℕ) (steps : List Step) (change : Change) → low ≤ change.number → RiseFrom low steps
    → RiseFrom low (with_change steps change)
change-rises low [] change l h = (l, tt)
change-rises low (step ∷ steps) change l h =
    with_change-cases (RiseFrom low) change step steps (λ e. h) (λ e. (l, (omega arith, h.1)))
    (λ e. (h.0, change-rises (step.number + 1) steps change (omega arith) h.1))

steps-rise : (frames : List Frame) (changes : List Change) → IsOrderly frames → RiseFrom 0 (steps_of frames changes)
steps-rise frames [] h = frames-rise 0 frames h
steps-rise frames (change ∷ changes) h =
    change-rises 0 (steps_of frames changes) change (omega arith) (steps-rise frames changes h)

module _ (stream : ℕ) (small : stream < 2 ^ 31) where
  -- findings stand at their steps, so in order
  run-ordered : (initial : Sides ℕ) (entry : Stream) (low : ℕ) (steps : List Step) → RiseFrom low steps
      → StandFrom low (stream_run_from stream initial entry steps)
  run-ordered initial entry low [] h = (tt, tt)
  run-ordered initial entry low (step ∷ steps) h =
      step-ordered low step.number (stream_said stream initial entry step) _ h.0
      (at-stream stream initial entry step small)
      (run-ordered (initial_after step.change initial) (stream_after stream initial entry step) (step.number + 1) steps
      h.1)

  -- what is shown of a stream stands in order
  pub shown-ordered : (frames_shown : Bool) (frames : List Frame) (changes : List Change) → IsOrderly frames
      → in_order (shown frames_shown (stream_run stream frames changes))
      ≡ shown frames_shown (stream_run stream frames changes)
  shown-ordered frames_shown frames changes h =
      ordered-shown frames_shown (stream_run stream frames changes)
      (run-ordered initial_in_force.initial idle_stream 0 (steps_of frames changes) (steps-rise frames changes h)).1
