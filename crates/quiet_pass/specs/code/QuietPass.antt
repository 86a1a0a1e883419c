-- What the machine stands for that meets a connection's frames.
use Rattle.std.specs.Prelude.{◌≡◌, ℕ, ◌<◌, ◌^◌, Bool, false, ◌&&◌, List, [], Option, is_none}
use Rattle.std.specs.List.{AllByRecursion}
use Rattle.std.specs.Option.{ForSome}
use Rattle.audit_terms.specs.declared.frames.Frame.{Frame}
use Rattle.audit_terms.specs.declared.items.Change.{Change}
use Rattle.audit_terms.specs.declared.settings.Settings.{Settings}
use Rattle.audit_terms.specs.declared.stream_state.Stream.{Stream}
use Rattle.audit_terms.specs.Frame.{increment, is_ack, is_server_promise, needs_opening, settings_in}
use Rattle.audit_terms.specs.Life.{is_opening}
use Rattle.audit_terms.specs.InForce.{InForce}
use Rattle.audit_terms.specs.Pass.{PassState, next, said}
use Rattle.audit_terms.specs.code.Room.{HaveRoom, WindowHasRoom}
use Rattle.audit_terms.specs.code.runs.Streams.{initial_after}
use Rattle.quiet_pass.specs.declared.passes.QuietPass.{QuietPass}
use Rattle.stream_credit.specs.code.Standings.{AreQuiet}
use Rattle.audit_terms.specs.code.LastFrame.{last_of}
use Rattle.fault_rules.specs.code.Pending.{IsPending, IsBrought}
use Rattle.quiet_pass.specs.code.Connection.{IsConnectionAfter}
use Rattle.quiet_pass.specs.code.AllStreams.{AreKept}
use Rattle.quiet_pass.specs.code.Streams.{AreMet}

-- the machine stands for a state of the pass
pub record StandsFor (machine : QuietPass) (state : PassState) : Type 0 where
  pub client : machine.last.client ≡ last_of state.previous.client
  pub server : machine.last.server ≡ last_of state.previous.server
  pub pending : IsPending state.in_force machine.pending
  pub initial : machine.initial ≡ state.in_force.initial
  pub connection : machine.connection.state ≡ state.connection
  pub streams : AreKept state.streams machine.streams

-- the initial window that settings say, if they do, is of 32 bits
abbrev pub IsInitialSmall : Settings → Type 0
IsInitialSmall settings = ForSome settings.initial (λ initial. initial < 2 ^ 32)

-- what a frame grants, and the initial window that it says, are of 32 bits: so a frame moves a credit by 2^32 at most
pub record MovesLittle (frame : Frame) : Type 0 where
  pub grant : increment frame.body < 2 ^ 32
  pub initial : AllByRecursion IsInitialSmall (settings_in frame.body)

-- no credit of the connection or of a stream is so far from 0 that the next frame could move it out of what code counts
pub record HasRoomLeft (state : PassState) : Type 0 where
  pub connection : HaveRoom (2 ^ 60) state.connection.credit
  pub client : (stream : ℕ) → WindowHasRoom (2 ^ 60) (state.streams stream).window.client
  pub server : (stream : ℕ) → WindowHasRoom (2 ^ 60) (state.streams stream).window.server

-- the machine keeps the connection and the streams of a state whose credits have room
pub record HasRoomKept (machine : QuietPass) : Type 0 where
  pub state : PassState
  pub connection : machine.connection.state ≡ state.connection
  pub streams : AreKept state.streams machine.streams
  pub room : HasRoomLeft state

-- streams other than 0
abbrev pub AreNamed : List ℕ → Type 0
AreNamed streams = AllByRecursion (λ stream. 0 < stream) streams

-- the frame is no SETTINGS and no acknowledgement
pub record BringsNothing (frame : Frame) : Type 0 where
  pub ack : is_ack frame.body ≡ false
  pub settings : settings_in frame.body ≡ []

-- the frame moves no stream but by a change
pub record MovesNoStream (frame : Frame) : Type 0 where
  pub unneeded : needs_opening frame ≡ false
  pub unpromised : is_server_promise frame ≡ false

-- the settings that are kept have met a frame, which brings this change or none
pub record HasBrought (frame : Frame) (change : Option Change) (old new : QuietPass) : Type 0 where
  pub brought : (now : InForce) → IsPending now old.pending → IsBrought now frame change new.pending
  pub last : new.last ≡ old.last
  pub initial : new.initial ≡ old.initial
  pub connection : new.connection ≡ old.connection
  pub streams : new.streams ≡ old.streams

-- the settings, the connection and the streams have met a frame: nothing of that is shown
pub record IsRestMet (frame : Frame) (old new : QuietPass) : Type 0 where
  pub change : Option Change
  pub opens : Bool
  pub brought : (now : InForce) → IsPending now old.pending → IsBrought now frame change new.pending
  pub answered : (is_ack frame.body && is_none change) ≡ false
  pub connection : IsConnectionAfter frame opens change old.connection new.connection
  pub opening : (streams : ℕ → Stream) → AreKept streams old.streams
      → is_opening frame.stream (streams frame.stream).life frame ≡ opens
  pub streams : (streams : ℕ → Stream) → AreKept streams old.streams
      → AreMet old.initial frame change streams (λ next. AreKept next new.streams)
  pub initial : new.initial ≡ initial_after change old.initial
  pub last : new.last ≡ old.last

-- a frame shows nothing, and the machine stands for the state after it
pub record IsQuietStep (state : PassState) (frame : Frame) (machine : QuietPass) : Type 0 where
  pub shown : (streams : List ℕ) → AreNamed streams → AreQuiet (said streams state frame)
  pub stands : StandsFor machine (next state frame)
