-- What a stream and a group of streams show by themselves, with no stop.
use Rattle.std.specs.Prelude.{◌≡◌, ℕ, true, ◌==◌, nat_lt, if◌then◌else◌, List, [], ◌∷◌, ◌++◌, filter, map, Option, Some}
use Rattle.std.specs.Prelude.{None}
use Rattle.std.specs.List.{flat_map}
use Rattle.std.specs.Option.{ForSome}
use Rattle.audit_terms.specs.declared.sides.Sides.{Sides}
use Rattle.audit_terms.specs.declared.frames.Frame.{Frame}
use Rattle.audit_terms.specs.declared.items.Change.{Change}
use Rattle.audit_terms.specs.declared.items.Item.{Item}
use Rattle.audit_terms.specs.declared.items.Step.{Step}
use Rattle.audit_terms.specs.declared.stream_state.Stream.{Stream}
use Rattle.audit_terms.specs.declared.findings.Finding.{Finding}
use Rattle.audit_terms.specs.Sides.{side_of, each_side}
use Rattle.audit_terms.specs.Frame.{is_ack, meets}
use Rattle.audit_terms.specs.Change.{new_initial}
use Rattle.audit_terms.specs.InForce.{initial_in_force}
use Rattle.audit_terms.specs.Finding.{in_order}
use Rattle.audit_terms.specs.Stream.{idle_stream, stream_after, stream_said}
use Rattle.audit_terms.specs.code.runs.Changes.{changes_of}

-- a frame that brings a change is an acknowledgement (6.5.3)
abbrev pub IsAcknowledged : Step → Type 0
IsAcknowledged step = ForSome step.change (λ _. ForSome step.frame (λ frame. is_ack frame.body ≡ true))

-- the initial windows in force after a change
abbrev pub initial_after : Option Change → Sides ℕ → Sides ℕ
initial_after change initial = each_side (λ d. new_initial change d (side_of d initial))

-- the findings of a stream over some steps, with no stop
abbrev pub stream_run_from : (stream : ℕ) → Sides ℕ → Stream → List Step → List Finding
stream_run_from stream initial entry [] = []
stream_run_from stream initial entry (step ∷ steps) =
    in_order (stream_said stream initial entry step)
    ++ stream_run_from stream (initial_after step.change initial) (stream_after stream initial entry step) steps

-- the stream after some steps
abbrev pub stream_after_all : (stream : ℕ) → Sides ℕ → Stream → List Step → Stream
stream_after_all stream initial entry [] = entry
stream_after_all stream initial entry (step ∷ steps) =
    stream_after_all stream (initial_after step.change initial) (stream_after stream initial entry step) steps

-- the frames that one stream meets
abbrev pub frames_of : (stream : ℕ) → List Frame → List Frame
frames_of stream frames = filter (meets stream) frames

-- what a stream meets at the frame of an item
abbrev pub step_at : Item → (stream : ℕ) → Step
step_at item stream = record {
  number = item.frame.number;
  frame = (if meets stream item.frame then Some item.frame else None);
  change = item.change;
}

-- a frame alone
abbrev pub frame_step : Frame → Step
frame_step frame = record { number = frame.number; frame = Some frame; change = None }

-- a change alone
abbrev pub change_step : Change → Step
change_step change = record { number = change.number; frame = None; change = Some change }

-- the steps with one more change, in order of numbers: it joins the step of its own number, or is a step by itself
abbrev pub with_change : List Step → Change → List Step
with_change [] change = change_step change ∷ []
with_change (step ∷ steps) change =
    if step.number == change.number then record step { change = Some change } ∷ steps
    else if nat_lt change.number step.number then change_step change ∷ step ∷ steps
    else step ∷ with_change steps change

-- the steps of some frames and some changes, in order of numbers
abbrev pub steps_of : List Frame → List Change → List Step
steps_of frames [] = map frame_step frames
steps_of frames (change ∷ changes) = with_change (steps_of frames changes) change

-- the findings of one stream, from its frames and all changes of the connection
abbrev pub stream_run : (stream : ℕ) → List Frame → List Change → List Finding
stream_run stream frames changes =
    stream_run_from stream initial_in_force.initial idle_stream (steps_of frames changes)

-- the stream after its frames and all changes of the connection
abbrev pub stream_at_end : (stream : ℕ) → List Frame → List Change → Stream
stream_at_end stream frames changes =
    stream_after_all stream initial_in_force.initial idle_stream (steps_of frames changes)

-- the findings of a group of streams, from the connection's frames
abbrev pub group_run : List Frame → List ℕ → List Finding
group_run frames streams = flat_map (λ stream. stream_run stream (frames_of stream frames) (changes_of frames)) streams
