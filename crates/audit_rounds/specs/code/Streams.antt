-- What the streams of a connection show and open, a row of the split for each.
use Rattle.std.specs.Prelude.{◌≡◌, ℕ, ◌^◌, ◌-◌, ◌==◌, ◌<◌, ◌≤◌, Bool, false, List, [], ◌∷◌, ◌++◌, All, length}
use Rattle.std.specs.Prelude.{Option, None}
use Rattle.std.specs.Option.{option_to_list}
use Rattle.std.specs.List.{flat_map, list_any}
use Rattle.audit_terms.specs.declared.frames.Frame.{Frame}
use Rattle.audit_terms.specs.declared.findings.Finding.{Finding}
use Rattle.audit_terms.specs.Finding.{shown}
use Rattle.audit_terms.specs.code.runs.Orderly.{IsOrderly}
use Rattle.audit_terms.specs.code.runs.Changes.{AreAcknowledged, changes_of}
use Rattle.audit_terms.specs.code.runs.Look.{Asked, is_past}
use Rattle.audit_terms.specs.Place.{place_number}
use Rattle.audit_terms.specs.code.Stops.{lesser_place}
use Rattle.audit_terms.specs.code.runs.Streams.{frames_of, stream_run, stream_at_end}
use Rattle.split_merge.specs.declared.splits.StreamRow.{StreamRow}
use Rattle.split_merge.specs.code.Split.{IsRange, row_positions}
use Rattle.stream_credit.specs.code.StreamPart.{frames_at}
use Rattle.stop_desk.specs.code.Board.{IsCut}
use Rattle.stop_desk.specs.code.Heeding.{Heeds, RunLooks}
use Rattle.stream_credit.specs.code.Looks.{step_numbers}
use Rattle.audit_rounds.specs.declared.connection_streams.Streams.{Streams}

-- what is shown of one stream
abbrev pub shown_of : (frames_shown : Bool) → List Frame → (stream : ℕ) → List Finding
shown_of frames_shown frames stream =
    shown frames_shown (stream_run stream (frames_of stream frames) (changes_of frames))

-- the frames of a row
abbrev pub row_frames : Streams → StreamRow → List Frame
row_frames streams row = frames_at streams.of.now.frames.now (row_positions streams.of.now.split row)

-- what is shown of the stream of a row
abbrev pub row_shown : (frames_shown : Bool) → Streams → StreamRow → List Finding
row_shown frames_shown streams row =
    shown frames_shown (stream_run row.stream (row_frames streams row) streams.changes)

-- the number of the frame that opens the stream of a row
abbrev pub row_opened : Streams → StreamRow → Option ℕ
row_opened streams row =
    (stream_at_end row.stream (row_frames streams row) streams.changes).life.opened

-- the same of several rows
abbrev pub rows_shown : (frames_shown : Bool) → Streams → List StreamRow → List Finding
rows_shown frames_shown streams rows = flat_map (row_shown frames_shown streams) rows

abbrev pub rows_opened : Streams → List StreamRow → List ℕ
rows_opened streams rows = flat_map (λ (row : StreamRow). option_to_list (row_opened streams row)) rows

-- a row whose stream may be gone through
pub record IsRow (streams : Streams) (row : StreamRow) : Type 0 where
  pub range : IsRange streams.of.now.split row
  pub in_range : row.stream < 2 ^ 31
  pub within : All (λ (position : ℕ). position < length streams.of.now.frames.now)
      (row_positions streams.of.now.split row)
  pub orderly : IsOrderly (row_frames streams row)
  pub acknowledged : AreAcknowledged (row_frames streams row) streams.changes

-- these openings are all up to a place, and none but those
abbrev pub AreOpenedUpTo : (upto : Option ℕ) → (opened all : List ℕ) → Type 0
AreOpenedUpTo upto opened all = (number : ℕ) → is_past upto number ≡ false →
    list_any (λ one. one == number) opened ≡ list_any (λ one. one == number) all

-- the looks of the run of one stream, and the place up to which it goes
abbrev pub RowLooks : (frames_shown : Bool) → Streams → StreamRow → List Asked → (upto : Option ℕ) → Type 0
RowLooks frames_shown streams row =
    RunLooks (step_numbers row.stream (row_frames streams row) streams.changes)
    (row_shown frames_shown streams row)

-- those of the runs of several, one run after the other, and the lesser of the places
abbrev pub RowsLook : (frames_shown : Bool) → Streams → List StreamRow → List Asked → (upto : Option ℕ) → Type 0
RowsLook frames_shown streams [] asked upto = (asked ≡ []) × (upto ≡ None)
RowsLook frames_shown streams (row ∷ rows) asked upto =
    (first : List Asked) × (rest : List Asked) × (one : Option ℕ) × (other : Option ℕ)
    × (asked ≡ first ++ rest) × (upto ≡ lesser_place one other)
    × RowLooks frames_shown streams row first one × RowsLook frames_shown streams rows rest other

-- what was made of some streams, which show `whole` and open at `openings`, with the looks that are due
pub record IsWork {L : Type 0} (answers : L → List Finding → Option ℕ → L → Type 0)
    (due : List Asked → (upto : Option ℕ) → Type 0) (before after : L) (whole : List Finding) (openings : List ℕ)
    (upto : Option ℕ) (kept : List Finding) (opened : List ℕ)
    : Type 0 where
  pub cut : IsCut whole upto kept
  pub opens : AreOpenedUpTo upto opened openings
  pub numbered : All (λ (found : Finding). place_number found.place ≤ 2 ^ 28 - 2) kept
  pub looks : Heeds answers due before after upto
