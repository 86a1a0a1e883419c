-- A frame of which something is shown, and the machine after it.
use Rattle.std.specs.List.{AllByRecursion, IsDistinct, flat_map, list_any}
use Rattle.std.specs.Prelude.{◌≡◌, ℕ, ◌<◌, ◌==◌, Bool, true, false, if◌then◌else◌, List, [], ◌++◌, Option, None, Some}
use Rattle.audit_terms.specs.Connection.{connection_after, connection_said}
use Rattle.audit_terms.specs.Finding.{shown, stops}
use Rattle.audit_terms.specs.Frame.{meets, promised_by}
use Rattle.audit_terms.specs.LocalFault.{local_said}
use Rattle.audit_terms.specs.Pass.{PassState, first_of, next, said}
use Rattle.audit_terms.specs.Place.{place_number}
use Rattle.audit_terms.specs.Side.{is_side}
use Rattle.audit_terms.specs.Sides.{side_of}
use Rattle.audit_terms.specs.Stream.{idle_stream, stream_after, stream_said}
use Rattle.audit_terms.specs.code.LastFrame.{last_of}
use Rattle.audit_terms.specs.code.runs.Streams.{frame_step, initial_after}
use Rattle.audit_terms.specs.declared.connection_state.ConnectionState.{ConnectionState}
use Rattle.audit_terms.specs.declared.findings.Finding.{Finding}
use Rattle.audit_terms.specs.declared.frames.Frame.{Frame}
use Rattle.audit_terms.specs.declared.items.Change.{Change}
use Rattle.audit_terms.specs.declared.items.Step.{Step}
use Rattle.audit_terms.specs.declared.sides.Side.TheVariants.{Client, Server}
use Rattle.audit_terms.specs.declared.sides.Sides.{Sides}
use Rattle.audit_terms.specs.declared.stream_state.Stream.{Stream}
use Rattle.quiet_pass.specs.code.Connection.{as_item}
use Rattle.quiet_pass.specs.code.QuietPass.{AreNamed, StandsFor}
use Rattle.quiet_pass.specs.code.AllStreams.{AreKept, IsKeptNow}
use Rattle.quiet_pass.specs.code.Streams.{IsChangeSaid}
use Rattle.quiet_pass.specs.declared.all_streams.AllStreams.{AllStreams}
use Rattle.quiet_pass.specs.declared.passes.QuietPass.{QuietPass}

-- the change of a frame, or none, by itself
abbrev pub change_alone : Frame → Option Change → Step
change_alone frame change = record { number = frame.number; frame = None; change = change }

-- what a frame that brings a change, or none, shows by itself and of the connection, and the connection after it
pub record IsConnectionSaid (machine : QuietPass) (frame : Frame) (opens : Bool) (change : Option Change)
    (before after : List Finding) (connection : ConnectionState) : Type 0 where
  pub said : (previous : Option Frame) → side_of frame.side machine.last ≡ last_of previous → after ≡ (before
      ++ local_said previous frame)
      ++ connection_said machine.connection.state (as_item frame opens change)
  pub next : connection ≡ connection_after machine.connection.state (as_item frame opens change)

-- what a frame shows of a stream that meets it was added, and this is the stream after it; stream 0 is none
pub record IsEntrySaid (stream : ℕ) (initial : Sides ℕ) (frame : Frame) (old new : Stream) (before after : List Finding)
    : Type 0 where
  pub said : after ≡ before
      ++ flat_map (λ one. stream_said one initial old (frame_step frame)) (first_of stream [])
  pub next : 0 < stream → new ≡ stream_after stream initial old (frame_step frame)

-- the machine keeps the connection as it is after the frame, which brings no settings
pub record IsConnectionKept (frame : Frame) (connection : ConnectionState) (old new : QuietPass) : Type 0 where
  pub kept : new.connection.state ≡ connection
  pub client : new.last.client ≡ (if is_side Client frame.side then last_of (Some frame) else old.last.client)
  pub server : new.last.server ≡ (if is_side Server frame.side then last_of (Some frame) else old.last.server)
  pub pending : new.pending ≡ old.pending
  pub initial : new.initial ≡ old.initial

-- the machine keeps the connection as it is after the frame, and the streams that meet the frame
pub record IsKeptAfter (frame : Frame) (connection : ConnectionState) (own promised : Stream) (old new : QuietPass)
    : Type 0 where
  pub rest : IsConnectionKept frame connection old new
  pub mid : AllStreams
  pub one : IsKeptNow frame.stream own old.streams mid
  pub other : IsKeptNow (promised_by frame) promised mid new.streams

-- the initial windows of a change are in force, what that shows was added, and all streams are moved
pub record IsBroughtSaying (frames_shown : Bool) (frame : Frame) (change : Option Change) (old new : QuietPass)
    (before after : List Finding) : Type 0 where
  pub initial : new.initial ≡ initial_after change old.initial
  pub streams : IsChangeSaid frames_shown old.initial (change_alone frame change)
      (λ streams. AreKept streams old.streams)
      (λ streams. AreKept streams new.streams) before after
  pub connection : new.connection ≡ old.connection
  pub last : new.last ≡ old.last
  pub pending : new.pending ≡ old.pending

-- the same streams are kept as before
pub record HasCountedMoves (old new : QuietPass) : Type 0 where
  pub streams : (streams : ℕ → Stream) → AreKept streams old.streams → AreKept streams new.streams
  pub initial : new.initial ≡ old.initial
  pub connection : new.connection ≡ old.connection
  pub last : new.last ≡ old.last
  pub pending : new.pending ≡ old.pending

-- streams other than 0, each once, and among them those that meet the frame, and each that is not as at the start
pub record HaveOwn (state : PassState) (frame : Frame) (streams : List ℕ) : Type 0 where
  pub named : AreNamed streams
  pub once : IsDistinct ◌==◌ streams
  pub own : (stream : ℕ) → 0 < stream → meets stream frame ≡ true
      → list_any (λ other. other == stream) streams ≡ true
  pub live : (stream : ℕ) → 0 < stream → list_any (λ other. other == stream) streams ≡ false
      → state.streams stream ≡ idle_stream

-- this is what a frame shows, and unless the audit stops there, the machine stands for the state after it
pub record IsSaidStep (frames_shown : Bool) (state : PassState) (frame : Frame) (found : List Finding)
    (machine : QuietPass) : Type 0 where
  pub shown : (streams : List ℕ) → HaveOwn state frame streams → shown frames_shown (said streams state frame) ≡ found
  pub goes_on : list_any stops found ≡ false → StandsFor machine (next state frame)
  pub numbered : AllByRecursion (λ (finding : Finding). place_number finding.place ≡ frame.number) found
