-- What the table of streams says that a split fills as it walks over the frames.
use Rattle.std.specs.Prelude.{◌≡◌, ◌≢◌, ℕ, ◌+◌, ◌<◌, ◌≤◌, ◌==◌, if◌then◌else◌, Bool, true, false, List, [], ◌∷◌}
use Rattle.std.specs.Prelude.{◌++◌, map, filter, length, get_or, slice_get, take, drop, Some}
use Rattle.audit_terms.specs.declared.frames.Frame.{Frame}
use Rattle.audit_terms.specs.Frame.{promised_by}
use Rattle.audit_terms.specs.Pass.{streams_of}
use Rattle.audit_terms.specs.code.SeenStreams.{is_among}
use Rattle.split_merge.specs.declared.row_index.RowIndex.{RowIndex}
use Rattle.split_merge.specs.declared.splits.StreamRow.{StreamRow}
use Rattle.split_merge.specs.declared.visits.Visited.{Visited}
use Rattle.split_merge.specs.declared.visits.Visits.{Visits}

-- the streams of the table's rows
abbrev pub streams_in : List Visited → List ℕ
streams_in rows = map (λ (row : Visited). row.stream) rows

-- a stream that meets a frame, by the frame's position, unless the stream is 0
abbrev pub noted : (stream position : ℕ) → List (ℕ × ℕ)
noted stream position = if stream == 0 then [] else (stream, position) ∷ []

-- the streams that meet the frames from this position on, frame by frame
abbrev pub notes_from : (position : ℕ) → List Frame → List (ℕ × ℕ)
notes_from position [] = []
notes_from position (frame ∷ frames) =
    noted frame.stream position ++ (noted (promised_by frame) position ++ notes_from (position + 1) frames)

-- the positions of a stream among these
abbrev pub noted_positions : (stream : ℕ) → List (ℕ × ℕ) → List ℕ
noted_positions stream notes = map (λ (n : ℕ × ℕ). n.1) (filter (λ (n : ℕ × ℕ). n.0 == stream) notes)

-- how many visits the rows count
abbrev pub total_of : List Visited → ℕ
total_of [] = 0
total_of (row ∷ rows) = row.count + total_of rows

-- the stream is not among these
abbrev pub NotAmong : ℕ → List ℕ → Type 0
NotAmong stream [] = Unit {0}
NotAmong stream (other ∷ others) = (stream ≢ other) × NotAmong stream others

-- no stream stands twice
abbrev pub AreDistinct : List ℕ → Type 0
AreDistinct [] = Unit {0}
AreDistinct (stream ∷ streams) = NotAmong stream streams × AreDistinct streams

-- the index tells where each stream stands among these: those at the front rise, the others are in its table, in order;
-- 0 is none of them
pub record IsIndex (streams : List ℕ) (index : RowIndex) : Type 0 where
  pub distinct : AreDistinct streams
  pub above : NotAmong 0 streams
  pub within : index.rising ≤ length streams
  pub rises : (i j : ℕ) → i < j → j < index.rising → get_or streams i 0 < get_or streams j 0
  pub others : index.others.keys ≡ drop index.rising streams

-- the stream is above each of these
abbrev pub AreBelow : (stream : ℕ) → List ℕ → Type 0
AreBelow stream streams = (i : ℕ) → i < length streams → get_or streams i 0 < stream

-- the stream is none of so many at the front
abbrev pub NotBefore : (many stream : ℕ) → List ℕ → Type 0
NotBefore many stream streams = (i : ℕ) → i < many → get_or streams i 0 ≢ stream

-- where the stream stands among these, or, if it is new, is to stand behind them
abbrev pub IsRowOf : (is_new : Bool) (stream row : ℕ) → List ℕ → RowIndex → Type 0
IsRowOf false stream row streams index = (slice_get streams row ≡ Some stream) × IsIndex streams index
IsRowOf true stream row streams index =
    (row ≡ length streams) × NotAmong stream streams × IsIndex (streams ++ stream ∷ []) index

-- the rows, and one of the stream where it has none
abbrev pub with_row : (stream : ℕ) → List Visited → List Visited
with_row stream rows =
    if is_among stream (streams_in rows) then rows
    else rows ++ record { stream = stream; count = 0 } ∷ []

-- a row that counts one visit more
abbrev pub counted : Visited → Visited
counted row = record { stream = row.stream; count = row.count + 1 }

-- the rows of some streams, each with its visits among what was noted
abbrev pub rows_of : (streams : List ℕ) → List (ℕ × ℕ) → List Visited
rows_of streams notes =
    map (λ stream. record { stream = stream; count = length (noted_positions stream notes) }) streams

-- the table of what was noted
pub record IsTableOf (notes : List (ℕ × ℕ)) (table : Visits) : Type 0 where
  pub index : IsIndex (streams_in table.rows.items) table.index
  pub rows : table.rows.items ≡ rows_of (streams_in table.rows.items) notes
  pub absent : (stream : ℕ) → NotAmong stream (streams_in table.rows.items) → noted_positions stream notes ≡ []
  pub few : length table.rows.items ≤ length notes
  pub visits : total_of table.rows.items ≤ length notes

-- the table of some frames: the streams that meet them, and what was noted of these
pub record AreVisits (frames : List Frame) (visits : Visits) : Type 0 where
  pub streams : streams_in visits.rows.items ≡ streams_of frames
  pub table : IsTableOf (notes_from 0 frames) visits

-- the table of no frame
pub record IsEmpty (table : Visits) : Type 0 where
  pub rows : table.rows.items ≡ []
  pub quiets : table.quiets.items ≡ []
  pub index : IsIndex [] table.index

-- each row with its range, empty as yet, from this position of the list on
abbrev pub laid_out : (from : ℕ) → List Visited → List StreamRow
laid_out from [] = []
laid_out from (row ∷ rows) =
    record { stream = row.stream; from = from; to = from } ∷ laid_out (from + row.count) rows

-- a row whose range is longer by one position
abbrev pub longer : StreamRow → StreamRow
longer row = record { stream = row.stream; from = row.from; to = row.to + 1 }

-- the range of a stream's row, from this place on, of which `positions` are what the list has: it has those that came
-- at its front, and room for all of the stream
pub record IsFilled (from stream : ℕ) (came all : List ℕ) (row : StreamRow) (positions : List ℕ) : Type 0 where
  pub is : row ≡ record { stream = stream; from = from; to = from + length came }
  pub front : take (length came) positions ≡ came
  pub fits : length came ≤ length all
  pub room : length all ≤ length positions

-- the ranges of streams, one after the other, with those positions that came, of what is noted in all
abbrev pub AreFilled : (from : ℕ) → (streams : List ℕ) → (came all : List (ℕ × ℕ)) → List StreamRow → List ℕ → Type 0
AreFilled from [] came all rows positions = rows ≡ []
AreFilled from (stream ∷ streams) came all [] positions = ⊥
AreFilled from (stream ∷ streams) came all (row ∷ rows) positions =
    IsFilled from stream (noted_positions stream came) (noted_positions stream all) row positions
    × AreFilled (from + length (noted_positions stream all)) streams came all rows
    (drop (length (noted_positions stream all)) positions)
