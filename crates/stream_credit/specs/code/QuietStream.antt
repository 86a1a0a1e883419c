-- A stream of which nothing was shown so far, where credits are not shown.
use Rattle.std.specs.Prelude.{◌≡◌, ℕ, ◌+◌, ◌^◌, ◌<◌, ◌≤◌, true, false, List, [], ◌∷◌, drop, length}
use Rattle.audit_terms.specs.declared.sides.Sides.{Sides}
use Rattle.audit_terms.specs.declared.frames.Frame.{Frame}
use Rattle.audit_terms.specs.declared.items.Change.{Change}
use Rattle.audit_terms.specs.Finding.{shown}
use Rattle.audit_terms.specs.code.runs.Orderly.{IsOrderly}
use Rattle.audit_terms.specs.code.runs.Streams.{stream_run, stream_run_from, stream_at_end, stream_after_all}
use Rattle.audit_terms.specs.code.runs.Changes.{AreOrderly}
use Rattle.stream_credit.specs.declared.quiet_streams.QuietStream.{QuietStream}
use Rattle.stream_credit.specs.code.Changes.{AreFrom, initial_at}
use Rattle.stream_credit.specs.code.Merged.{merged, Acknowledge}
use Rattle.stream_credit.specs.code.Standings.{opened_of, stream_of, AreMovedBy}

-- what a change does to it, which takes the initial windows in force from `before` to `after`
pub record IsPassed (before after : Sides ℕ) (old new : QuietStream) : Type 0 where
  pub moved : AreMovedBy before after old.standings new.standings
  pub met : new.met ≡ old.met + 1

-- the first frame, if there is one, has the number
abbrev pub StartsAt : (number : ℕ) → List Frame → Type 0
StartsAt number [] = Unit {0}
StartsAt number (frame ∷ frames) = frame.number ≡ number

-- nothing is shown of the stream before the rest of its frames, and what it comes to from there on is what it comes to
-- in all
pub record IsAhead (stream : ℕ) (changes : List Change) (all rest : List Frame) (quiet : QuietStream) : Type 0 where
  pub streamed : stream < 2 ^ 31
  pub met : quiet.met ≤ length changes
  pub orderly : IsOrderly rest
  pub rise : AreOrderly changes
  pub acknowledged : Acknowledge rest changes
  pub shown : shown false (stream_run stream all changes)
      ≡ shown false (stream_run_from stream (initial_at quiet.met changes) (stream_of quiet.standings)
      (merged rest (drop quiet.met changes)))
  pub end : stream_at_end stream all changes
      ≡ stream_after_all stream (initial_at quiet.met changes) (stream_of quiet.standings)
      (merged rest (drop quiet.met changes))

-- it stands before some rest of its frames that begins at the number, so it can meet the changes before that
pub record CanMeet (number : ℕ) (changes : List Change) (quiet : QuietStream) : Type 0 where
  pub stream : ℕ
  pub all : List Frame
  pub rest : List Frame
  pub starts : StartsAt number rest
  pub ahead : IsAhead stream changes all rest quiet

-- it has met the changes before the number: none of them is left, and it still stands before such a rest
pub record HasMetChanges (number : ℕ) (changes : List Change) (old new : QuietStream) : Type 0 where
  pub passed : AreFrom number (drop new.met changes)
  pub ahead : (stream : ℕ) (all rest : List Frame) → StartsAt number rest → IsAhead stream changes all rest old
      → IsAhead stream changes all rest new

-- the same for as long as it is quiet
abbrev pub IsAheadIfQuiet : (stream : ℕ) → List Change → (all rest : List Frame) → QuietStream → Type 0
IsAheadIfQuiet stream changes all rest quiet = quiet.is_quiet ≡ true → IsAhead stream changes all rest quiet

-- nothing is shown of the whole stream, and that frame opens it
pub record IsQuietToEnd (stream : ℕ) (changes : List Change) (all : List Frame) (opened : ℕ) : Type 0 where
  pub shown : shown false (stream_run stream all changes) ≡ []
  pub end : (stream_at_end stream all changes).life.opened ≡ opened_of opened
