-- The rows of the streams that were opened. No public clause cites this.
use Rattle.std.specs.List.{AllZip, flat_map}
use Rattle.std.specs.Prelude.{◌≡◌, ◌≢◌, ℕ, ◌<◌, ◌%◌, ◌^◌, Bool, ◌==◌, true, false, if◌then◌else◌, List, [], ◌∷◌, ◌++◌}
use Rattle.std.specs.Prelude.{Some, slice_get}
use Rattle.audit_terms.specs.Finding.{shown}
use Rattle.audit_terms.specs.declared.sides.Sides.{Sides}
use Rattle.audit_terms.specs.declared.findings.Finding.{Finding}
use Rattle.audit_terms.specs.declared.frames.Frame.{Frame}
use Rattle.audit_terms.specs.declared.items.Step.{Step}
use Rattle.audit_terms.specs.declared.stream_state.Stream.{Stream}
use Rattle.audit_terms.specs.Life.{is_opening}
use Rattle.audit_terms.specs.Stream.{idle_stream, stream_said, stream_after}
use Rattle.audit_terms.specs.code.runs.Streams.{frame_step}
use Rattle.audit_terms.specs.code.StreamRows.{IsRowWith}
use Rattle.stream_credit.specs.code.Standings.{AreQuiet, IsNextOpened, IsOpenedBy}
use Rattle.quiet_pass.specs.code.HeldStreams.{held, is_low, IsEntryMoved}
use Rattle.quiet_pass.specs.code.Shifts.{raised}
use Rattle.quiet_pass.specs.declared.opened_rows.Row.{Row}

-- a stream by its identifier: one without a row is not opened
abbrev pub entry_in : List Row → (stream : ℕ) → Stream
entry_in [] stream = idle_stream
entry_in (row ∷ rows) stream = if row.stream == stream then held row.standings else entry_in rows stream

-- the identifiers rise, all past the first given
abbrev pub AreRisingFrom : (low : ℕ) → List Row → Type 0
AreRisingFrom low [] = Unit {0}
AreRisingFrom low (row ∷ rows) = (low < row.stream) × AreRisingFrom row.stream rows

abbrev pub AreRising : List Row → Type 0
AreRising rows = AreRisingFrom 0 rows

-- each row's identifier is below this one, which is not 0
abbrev pub IsAboveAll : List Row → (stream : ℕ) → Type 0
IsAboveAll [] stream = 0 < stream
IsAboveAll (row ∷ rows) stream = (row.stream < stream) × IsAboveAll rows stream

-- a stream of a connection, odd or even as the remainder is
pub record IsOfParity (remainder stream : ℕ) : Type 0 where
  pub parity : stream % 2 ≡ remainder
  pub small : stream < 2 ^ 31

abbrev pub IsRowOfParity : (remainder : ℕ) → Row → Type 0
IsRowOfParity remainder row = IsOfParity remainder row.stream

-- the rows are of such streams
abbrev pub AreOfParity : (remainder : ℕ) → List Row → Type 0
AreOfParity remainder rows = (at : ℕ) (row : Row) → slice_get rows at ≡ Some row → IsRowOfParity remainder row

-- and stay so with a stream that is one itself
abbrev pub KeepsParity : (stream : ℕ) → (old new : List Row) → Type 0
KeepsParity stream old new =
    (remainder : ℕ) → IsOfParity remainder stream → AreOfParity remainder old → AreOfParity remainder new

-- the row of a stream stands there
abbrev pub IsRowOf : List Row → (stream at : ℕ) → Type 0
IsRowOf = IsRowWith (λ row. row.stream)

-- a row after a frame on its stream: nothing of that is shown
pub record IsRowAfter (frame : Frame) (old new : Row) : Type 0 where
  pub same : new.stream ≡ old.stream
  pub full : is_low old.standings ≡ false
  pub next : IsNextOpened frame old.standings new.standings

-- the row of a stream that a frame opens: nothing of that is shown
pub record IsOpened (stream : ℕ) (initial : Sides ℕ) (frame : Frame) (row : Row) : Type 0 where
  pub same : row.stream ≡ stream
  pub full : is_low row.standings ≡ false
  pub by : IsOpenedBy stream initial frame row.standings

-- a stream meets a frame, which opens it or not, by the rows before it and after it: nothing of that is shown, and no
-- other stream changes
pub record IsMetOn (stream : ℕ) (initial : Sides ℕ) (frame : Frame) (opens : Bool) (old new : List Row) : Type 0 where
  pub opening : is_opening stream (entry_in old stream).life frame ≡ opens
  pub said : AreQuiet (stream_said stream initial (entry_in old stream) (frame_step frame))
  pub after : entry_in new stream ≡ stream_after stream initial (entry_in old stream) (frame_step frame)
  pub others : (other : ℕ) → other ≢ stream → entry_in new other ≡ entry_in old other
  pub rising : AreRising new
  pub parity : KeepsParity stream old new

-- this is a stream now, and no other stream changes
pub record IsPut (stream : ℕ) (entry : Stream) (old new : List Row) : Type 0 where
  pub own : entry_in new stream ≡ entry
  pub others : (other : ℕ) → other ≢ stream → entry_in new other ≡ entry_in old other
  pub rising : AreRising new
  pub parity : KeepsParity stream old new

-- the same, and where: the rows elsewhere stay as they are
pub record IsPutAt (stream : ℕ) (entry : Stream) (at : ℕ) (old new : List Row) : Type 0 where
  pub put : AreRising old → IsPut stream entry old new
  pub others : (other : ℕ) → other ≢ at → slice_get new other ≡ slice_get old other

-- a row after the initial windows in force go from some to others: nothing is shown of it
pub record IsRowMoved (before after : Sides ℕ) (old new : Row) : Type 0 where
  pub same : new.stream ≡ old.stream
  pub moved : IsEntryMoved before after (held old.standings) (held new.standings)

-- what a step shows of the stream of a row
abbrev pub row_said : Sides ℕ → Step → Row → List Finding
row_said initial step row = stream_said row.stream initial (held row.standings) step

-- a row after a step
pub record IsRowStepped (initial : Sides ℕ) (step : Step) (old new : Row) : Type 0 where
  pub same : new.stream ≡ old.stream
  pub after : held new.standings ≡ stream_after old.stream initial (held old.standings) step

-- what a step shows of a row was added; the row is as it is after the step, if it could be kept
pub record IsRowSaid (frames_shown : Bool) (initial : Sides ℕ) (step : Step) (kept : Bool) (old new : Row)
    (before after : List Finding) : Type 0 where
  pub said : shown frames_shown after ≡ shown frames_shown before ++ shown frames_shown (row_said initial step old)
  pub stepped : kept ≡ true → IsRowStepped initial step old new

-- what a step shows of the stream of a row that holds credits less a shift
abbrev pub shifted_said : (shift initial : Sides ℕ) → Step → Row → List Finding
shifted_said shift initial step row = stream_said row.stream initial (raised shift (held row.standings)) step

-- a row that holds its stream less a shift
pub record IsLowered (shift : Sides ℕ) (old new : Row) : Type 0 where
  pub same : new.stream ≡ old.stream
  pub low : raised shift (held new.standings) ≡ held old.standings

-- each row
abbrev pub AreLowered : Sides ℕ → (old new : List Row) → Type 0
AreLowered shift = AllZip (IsLowered shift)

-- each row after a step
abbrev pub AreStepped : Sides ℕ → Step → (old new : List Row) → Type 0
AreStepped initial step = AllZip (IsRowStepped initial step)

-- what a step shows of the streams of rows was added, and each row is as it is after the step, if all could be kept
pub record AreRowsSaid (frames_shown : Bool) (initial : Sides ℕ) (step : Step) (kept : Bool) (old new : List Row)
    (before after : List Finding) : Type 0 where
  pub said : shown frames_shown after
      ≡ shown frames_shown before ++ shown frames_shown (flat_map (row_said initial step) old)
  pub stepped : kept ≡ true → AreStepped initial step old new
