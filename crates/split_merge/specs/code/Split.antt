-- The frames of a connection by stream: where the frames stand that each stream meets (RFC 9113, 5 and 6.6).
use Rattle.std.specs.Prelude.{◌≡◌, ℕ, ◌+◌, ◌<◌, ◌≤◌, Bool, true, not, if◌then◌else◌, List, [], ◌∷◌, map, filter, length}
use Rattle.std.specs.Prelude.{option_to_list}
use Rattle.std.specs.List.{All, between, flat_map}
use Rattle.audit_terms.specs.declared.frames.Frame.{Frame}
use Rattle.audit_terms.specs.declared.items.Change.{Change}
use Rattle.audit_terms.specs.Finding.{shown}
use Rattle.audit_terms.specs.Frame.{meets}
use Rattle.audit_terms.specs.Pass.{streams_of}
use Rattle.audit_terms.specs.code.runs.Streams.{frames_of, stream_at_end, stream_run}
use Rattle.stream_credit.specs.code.StreamPart.{frames_at}
use Rattle.split_merge.specs.declared.splits.StreamRow.{StreamRow}
use Rattle.split_merge.specs.declared.splits.SplitFrames.{SplitFrames}

-- the positions of the frames that the stream meets, of frames from this position on
abbrev pub positions_from : (position stream : ℕ) → List Frame → List ℕ
positions_from position stream [] = []
positions_from position stream (frame ∷ frames) =
    if meets stream frame then position ∷ positions_from (position + 1) stream frames
    else positions_from (position + 1) stream frames

-- the positions of the frames that the stream meets
abbrev pub positions_of : (stream : ℕ) → List Frame → List ℕ
positions_of stream frames = positions_from 0 stream frames

-- the range of a row lies in the list of positions
pub record IsRange (split : SplitFrames) (row : StreamRow) : Type 0 where
  pub rising : row.from ≤ row.to
  pub within : row.to ≤ length split.positions.items

-- the positions in the range of a row
abbrev pub row_positions : SplitFrames → StreamRow → List ℕ
row_positions split row = between row.from row.to split.positions.items

-- the positions are those of the frames that the stream meets
pub record ArePositionsOf (all : List Frame) (stream : ℕ) (own : List ℕ) : Type 0 where
  pub not_connection : 0 < stream
  pub positions : own ≡ positions_of stream all
  pub frames : frames_at all own ≡ frames_of stream all
  pub within : All (λ position. position < length all) own

-- the number of the frame that opens the stream, if one does (5.1)
abbrev pub opening_of : List Frame → List Change → (stream : ℕ) → List ℕ
opening_of frames changes stream =
    option_to_list (stream_at_end stream (frames_of stream frames) changes).life.opened

-- some streams that meet a frame are quiet: nothing is shown of them, and the frames that open them are told. Each
-- other one has a row with the positions of its frames, in order of first frames
pub record IsSplit (frames_shown : Bool) (changes : List Change) (frames : List Frame)
    (split : SplitFrames) : Type 0 where
  pub is_quiet : ℕ → Bool
  pub streams : map (λ (row : StreamRow). row.stream) split.rows.items
      ≡ filter (λ stream. not (is_quiet stream)) (streams_of frames)
  pub ranges : All (IsRange split) split.rows.items
  pub each : All (λ (row : StreamRow). ArePositionsOf frames row.stream (row_positions split row)) split.rows.items
  pub quiet : All (λ (stream : ℕ). is_quiet stream ≡ true →
      shown frames_shown (stream_run stream (frames_of stream frames) changes) ≡ []) (streams_of frames)
  pub opened : split.opened.items ≡ flat_map (opening_of frames changes) (filter is_quiet (streams_of frames))
