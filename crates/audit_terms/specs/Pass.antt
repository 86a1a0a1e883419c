-- The pass over a connection's frames: its state between two frames, what it says at a frame, and where it ends.
use Rattle.std.specs.Prelude.{ℕ, ◌==◌, Bool, not, if◌then◌else◌, List, [], ◌∷◌, ◌++◌, filter, Option, Some, None}
use Rattle.std.specs.List.{flat_map}
use Rattle.audit_terms.specs.declared.sides.Sides.{Sides}
use Rattle.audit_terms.specs.declared.frames.Frame.{Frame}
use Rattle.audit_terms.specs.declared.items.Item.{Item}
use Rattle.audit_terms.specs.declared.items.Step.{Step}
use Rattle.audit_terms.specs.declared.connection_state.ConnectionState.{ConnectionState}
use Rattle.audit_terms.specs.declared.stream_state.Stream.{Stream}
use Rattle.audit_terms.specs.declared.findings.Finding.{Finding}
use Rattle.audit_terms.specs.Sides.{side_of}
use Rattle.audit_terms.specs.Frame.{promised_by, meets}
use Rattle.audit_terms.specs.LocalFault.{local_said, previous_after, no_previous}
use Rattle.audit_terms.specs.InForce.{InForce, initial_in_force, in_force_after, change_of, settings_said}
use Rattle.audit_terms.specs.Connection.{connection_start, connection_after, connection_said}
use Rattle.audit_terms.specs.Stream.{idle_stream, opens, stream_after, stream_said}
use Rattle.audit_terms.specs.Finding.{in_order, upto_stop}

-- the state between two frames: four machines that step side by side
pub record PassState : Type 0 where
  pub previous : Sides (Option Frame)  -- the last frame of each side
  pub in_force : InForce  -- the settings sent, taken and in force
  pub connection : ConnectionState
  pub streams : ℕ → Stream  -- every stream other than 0, by its identifier

-- the state before the first frame
abbrev pub pass_start : PassState
pass_start = record {
  previous = no_previous;
  in_force = initial_in_force;
  connection = connection_start;
  streams = λ _. idle_stream;
}

-- what a stream meets at a frame: the frame, where the stream meets it, and the change that the frame brings
abbrev pub step_of : InForce → Frame → (stream : ℕ) → Step
step_of now frame stream = record {
  number = frame.number;
  frame = (if meets stream frame then Some frame else None);
  change = change_of now frame;
}

-- does the frame open its stream?
abbrev pub opens_stream : PassState → Frame → Bool
opens_stream state frame =
    opens frame.stream (state.streams frame.stream) (step_of state.in_force frame frame.stream)

-- what the connection meets at a frame
abbrev pub item_of : PassState → Frame → Item
item_of state frame = record {
  frame = frame;
  opens = opens_stream state frame;
  change = change_of state.in_force frame;
}

-- the state after a frame
abbrev pub next : PassState → Frame → PassState
next state frame = record {
  previous = previous_after state.previous frame;
  in_force = in_force_after state.in_force frame;
  connection = connection_after state.connection (item_of state frame);
  streams = λ stream.
      stream_after stream state.in_force.initial (state.streams stream) (step_of state.in_force frame stream);
}

-- what a frame shows of some streams
abbrev pub streams_said : List ℕ → PassState → Frame → List Finding
streams_said streams state frame = flat_map
    (λ stream. stream_said stream state.in_force.initial (state.streams stream) (step_of state.in_force frame stream))
    streams

-- everything said at a frame, where the connection's frames name these streams
abbrev pub said : List ℕ → PassState → Frame → List Finding
said streams state frame = in_order (
    local_said (side_of frame.side state.previous) frame
    ++ settings_said state.in_force frame
    ++ connection_said state.connection (item_of state frame)
    ++ streams_said streams state frame)

-- all findings from a state on
abbrev pub full_from : List ℕ → PassState → List Frame → List Finding
full_from streams state [] = []
full_from streams state (frame ∷ frames) = said streams state frame ++ full_from streams (next state frame) frames

-- the streams with this one before them, unless it is 0
abbrev pub first_of : (stream : ℕ) → List ℕ → List ℕ
first_of stream streams = if stream == 0 then streams else stream ∷ filter (λ other. not (other == stream)) streams

-- each stream other than 0 that meets one of the frames, in order of its first frame; of one frame its own stream first
abbrev pub streams_of : List Frame → List ℕ
streams_of [] = []
streams_of (frame ∷ frames) = first_of frame.stream (first_of (promised_by frame) (streams_of frames))

-- all findings of a connection's frames, with no stop
abbrev pub full : List Frame → List Finding
full frames = full_from (streams_of frames) pass_start frames

-- one pass over a connection's frames: all findings up to and including the first connection error
abbrev pub pass : List Frame → List Finding
pass frames = upto_stop (full frames)
