-- What the table of streams says of each stream that is quiet so far, as a split walks over the frames.
use Rattle.std.specs.Prelude.{◌≡◌, ◌≢◌, ℕ, ◌^◌, ◌<◌, ◌==◌, if◌then◌else◌, Bool, true, false, List, [], ◌∷◌, length}
use Rattle.std.specs.Prelude.{slice_get, Some}
use Rattle.std.specs.List.{AllZip}
use Rattle.audit_terms.specs.declared.frames.Frame.{Frame}
use Rattle.audit_terms.specs.declared.items.Change.{Change}
use Rattle.audit_terms.specs.code.runs.Orderly.{IsOrderly}
use Rattle.audit_terms.specs.code.runs.Streams.{frames_of}
use Rattle.audit_terms.specs.code.runs.Changes.{AreOrderly, AreAcknowledged}
use Rattle.stream_credit.specs.declared.quiet_streams.QuietStream.{QuietStream}
use Rattle.stream_credit.specs.code.QuietStream.{IsAheadIfQuiet, IsQuietToEnd}
use Rattle.split_merge.specs.declared.visits.Visits.{Visits}
use Rattle.split_merge.specs.code.Visits.{IsIndex, NotAmong, streams_in, with_row}

-- the frames that each stream has still to meet, with one more that one of them meets first
abbrev pub with_next : (stream : ℕ) → Frame → (rest : ℕ → List Frame) → ℕ → List Frame
with_next stream frame rest other = if stream == other then frame ∷ rest other else rest other

-- the stream is ahead of the frames that it has still to meet
abbrev pub IsAheadOf : List Change → (all : List Frame) → (rest : ℕ → List Frame) → (stream : ℕ) → QuietStream → Type 0
IsAheadOf changes all rest stream = IsAheadIfQuiet stream changes (frames_of stream all) (rest stream)

-- each stream is; one that is not among them has met none
pub record AreAhead (changes : List Change) (all : List Frame) (rest : ℕ → List Frame)
    (streams : List ℕ) (quiets : List QuietStream) : Type 0 where
  pub orderly : IsOrderly all
  pub rise : AreOrderly changes
  pub acknowledged : AreAcknowledged all changes
  pub above : NotAmong 0 streams
  pub ahead : AllZip (IsAheadOf changes all rest) streams quiets
  pub unmet : (stream : ℕ) → stream ≢ 0 → NotAmong stream streams → rest stream ≡ frames_of stream all

-- the frames and the changes of a connection: its streams can meet them
pub record CanVisit (changes : List Change) (frames : List Frame) : Type 0 where
  pub short : length frames < 2 ^ 28
  pub orderly : IsOrderly frames
  pub rise : AreOrderly changes
  pub acknowledged : AreAcknowledged frames changes

-- some stream may meet the frame next: this one, unless it is 0
pub record MeetsNext (stream : ℕ) (changes : List Change) (frame : Frame)
    (streams : List ℕ) (quiets : List QuietStream) : Type 0 where
  pub all : List Frame
  pub rest : ℕ → List Frame
  pub ahead : AreAhead changes all (with_next stream frame rest) streams quiets

-- the stream may have a row in the table
pub record CanHaveRow (stream : ℕ) (table : Visits) : Type 0 where
  pub index : IsIndex (streams_in table.rows.items) table.index
  pub room : length table.rows.items < 2 ^ 31
  pub above : stream ≢ 0
  pub streamed : stream < 2 ^ 31

-- it has this one, which was added unless it had one before
pub record HasRow (stream at : ℕ) (old new : Visits) : Type 0 where
  pub index : IsIndex (streams_in new.rows.items) new.index
  pub row : slice_get (streams_in new.rows.items) at ≡ Some stream
  pub rows : new.rows.items ≡ with_row stream old.rows.items
  pub ahead : (changes : List Change) (all : List Frame) (rest : ℕ → List Frame)
      → AreAhead changes all rest (streams_in old.rows.items) old.quiets.items
      → AreAhead changes all rest (streams_in new.rows.items) new.quiets.items

-- no stream has a frame still to meet
pub record IsEnd (changes : List Change) (streams : List ℕ) (quiets : List QuietStream) : Type 0 where
  pub all : List Frame
  pub ahead : AreAhead changes all (λ _. []) streams quiets

-- nothing is shown of a stream that is quiet, and no stream is quiet where credits are shown
pub record IsQuietStream (frames_shown : Bool) (changes : List Change) (stream : ℕ) (frames : List Frame)
    (quiet : QuietStream) : Type 0 where
  pub hidden : frames_shown ≡ false
  pub shows : IsQuietToEnd stream changes frames quiet.standings.opened

abbrev pub EndsQuiet : (frames_shown : Bool) → List Change → (stream : ℕ) → List Frame → QuietStream → Type 0
EndsQuiet frames_shown changes stream frames quiet =
    quiet.is_quiet ≡ true → IsQuietStream frames_shown changes stream frames quiet

-- the same of each stream
abbrev pub EndsQuietOf : (frames_shown : Bool) → List Change → (all : List Frame) → (stream : ℕ) → QuietStream → Type 0
EndsQuietOf frames_shown changes all stream = EndsQuiet frames_shown changes stream (frames_of stream all)

abbrev pub EndQuiet : (frames_shown : Bool) → List Change → (all : List Frame) → List ℕ → List QuietStream → Type 0
EndQuiet frames_shown changes all = AllZip (EndsQuietOf frames_shown changes all)
