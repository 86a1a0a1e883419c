-- The steps of a stream are its frames and the changes of the connection, joined where they have one number.
use Rattle.std.specs.Prelude.{◌≡◌, ℕ, ◌<◌, true, ◌||◌, List, map, is_some, IfSome}
use Rattle.std.specs.Option.{option_to_list}
use Rattle.std.specs.List.{AllByRecursion, flat_map}
use Rattle.audit_terms.specs.declared.frames.Frame.{Frame}
use Rattle.audit_terms.specs.declared.items.Change.{Change}
use Rattle.audit_terms.specs.declared.items.Step.{Step}
use Rattle.audit_terms.specs.code.runs.Orderly.{IsOrderly}
use Rattle.audit_terms.specs.code.runs.Changes.{changes_of}
use Rattle.audit_terms.specs.code.runs.Streams.{frames_of, steps_of}
use Rattle.audit_terms.specs.laws.Pairs.{EachPair}

-- each number is below every later one
abbrev pub AreRising : List ℕ → Type 0
AreRising numbers = EachPair (λ m n. m < n) numbers

-- a step has a frame or a change, each of the step's own number
pub record HasFrameOrChange (step : Step) : Type 0 where
  pub has_one : (is_some step.frame || is_some step.change) ≡ true
  pub frame : IfSome step.frame (λ frame. frame.number ≡ step.number)
  pub change : IfSome step.change (λ change. change.number ≡ step.number)

-- the steps have these frames and these changes, and nothing else, in order of numbers
pub record AreJoined (frames : List Frame) (changes : List Change) (steps : List Step) : Type 0 where
  pub rising : AreRising (map (λ (step : Step). step.number) steps)
  pub filled : AllByRecursion HasFrameOrChange steps
  pub its_frames : flat_map (λ (step : Step). option_to_list step.frame) steps ≡ frames
  pub its_changes : flat_map (λ (step : Step). option_to_list step.change) steps ≡ changes

-- frames and changes with rising numbers are joined
abbrev pub StepsJoinFramesAndChanges : Type 0
StepsJoinFramesAndChanges = (frames : List Frame) (changes : List Change) →
    AreRising (map (λ (frame : Frame). frame.number) frames) →
    AreRising (map (λ (change : Change). change.number) changes) →
    AreJoined frames changes (steps_of frames changes)

-- such are the frames of each stream and the changes of a connection
abbrev pub StreamsHaveSteps : Type 0
StreamsHaveSteps = (stream : ℕ) (frames : List Frame) → IsOrderly frames →
    AreJoined (frames_of stream frames) (changes_of frames) (steps_of (frames_of stream frames) (changes_of frames))
