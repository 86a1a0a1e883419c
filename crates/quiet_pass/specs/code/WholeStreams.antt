-- All streams in full, in a plain list. No public clause cites this.
use Rattle.std.specs.Prelude.{◌≡◌, ℕ, ◌<◌, ◌^◌, ◌==◌, not, if◌then◌else◌, List, [], ◌∷◌, map, Option}
use Rattle.std.specs.List.{filter}
use Rattle.audit_terms.specs.code.Room.{WindowHasRoom}
use Rattle.audit_terms.specs.declared.findings.Finding.{Finding}
use Rattle.audit_terms.specs.declared.items.Step.{Step}
use Rattle.audit_terms.specs.declared.sides.Sides.{Sides}
use Rattle.audit_terms.specs.declared.stream_state.Stream.{Stream}
use Rattle.audit_terms.specs.Stream.{idle_stream, stream_after, stream_said}
use Rattle.quiet_pass.specs.code.HeldStreams.{held}
use Rattle.quiet_pass.specs.code.Shifts.{raised_in}
use Rattle.quiet_pass.specs.code.Streams.{AreNames}
use Rattle.quiet_pass.specs.declared.opened_rows.Row.{Row}
use Rattle.quiet_pass.specs.declared.whole_streams.WholeStream.{WholeStream}

-- a stream by its identifier: one that is not in the list is not opened
abbrev pub entry_among : List WholeStream → (stream : ℕ) → Stream
entry_among [] stream = idle_stream
entry_among (one ∷ list) stream = if one.stream == stream then one.entry else entry_among list stream

abbrev pub names_among : List WholeStream → List ℕ
names_among list = map (λ (one : WholeStream). one.stream) list

-- the list has each stream that was opened once, and none that has no identifier of a connection
pub record AreListed (streams : ℕ → Stream) (list : List WholeStream) : Type 0 where
  pub all : (stream : ℕ) → 0 < stream → streams stream ≡ entry_among list stream
  pub names : AreNames (names_among list)

-- the list with a stream as it is now; stream 0 is none
abbrev pub put_among : (stream : ℕ) → (entry : Stream) → List WholeStream → List WholeStream
put_among stream entry list =
    if stream == 0 then list
    else record { stream = stream; entry = entry } ∷ filter (λ (one : WholeStream). not (one.stream == stream)) list

-- no credit is so far from 0 that a step could move it out of what code counts
pub record HaveRoomIn (streams : ℕ → Stream) : Type 0 where
  pub client : (stream : ℕ) → WindowHasRoom (2 ^ 60) (streams stream).window.client
  pub server : (stream : ℕ) → WindowHasRoom (2 ^ 60) (streams stream).window.server

-- the same of one
pub record FitsWhole (one : WholeStream) : Type 0 where
  pub stream : one.stream < 2 ^ 31
  pub client : WindowHasRoom (2 ^ 60) one.entry.window.client
  pub server : WindowHasRoom (2 ^ 60) one.entry.window.server

-- what a step shows of one
abbrev pub whole_said : Sides ℕ → Step → WholeStream → List Finding
whole_said initial step one = stream_said one.stream initial one.entry step

-- one after a step
abbrev pub whole_after : Sides ℕ → Step → WholeStream → WholeStream
whole_after initial step one = record {
  stream = one.stream;
  entry = stream_after one.stream initial one.entry step;
}

-- the stream of a row
abbrev pub whole_of : Option (Sides ℕ) → Row → WholeStream
whole_of shift row = record { stream = row.stream; entry = raised_in shift (held row.standings) }
