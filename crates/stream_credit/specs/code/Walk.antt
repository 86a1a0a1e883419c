-- A stream's run between two of its steps.
use Rattle.std.specs.Prelude.{◌≡◌, ℕ, ◌+◌, ◌-◌, ◌*◌, ◌^◌, ◌<◌, ◌≤◌, Bool, List, [], ◌∷◌, ◌++◌, drop, length, map}
use Rattle.std.specs.Prelude.{Option, Some, None}
use Rattle.std.specs.Bool.{MatchBool}
use Rattle.std.specs.List.{AllByRecursion}
use Rattle.audit_terms.specs.declared.sides.Side.{Side}
use Rattle.audit_terms.specs.declared.frames.Frame.{Frame}
use Rattle.audit_terms.specs.declared.items.Change.{Change}
use Rattle.audit_terms.specs.declared.items.Step.{Step}
use Rattle.audit_terms.specs.declared.stream_state.Stream.{Stream}
use Rattle.audit_terms.specs.declared.findings.Finding.{Finding}
use Rattle.audit_terms.specs.Sides.{side_of}
use Rattle.audit_terms.specs.Place.{place_number}
use Rattle.audit_terms.specs.Finding.{in_order, shown}
use Rattle.audit_terms.specs.code.runs.Look.{found_before}
use Rattle.audit_terms.specs.InForce.{initial_in_force}
use Rattle.audit_terms.specs.Stream.{idle_stream, stream_said, stream_after}
use Rattle.audit_terms.specs.code.runs.Streams.{IsAcknowledged, initial_after, stream_run_from, stream_after_all}
use Rattle.audit_terms.specs.code.Room.{WindowHasRoom}
use Rattle.audit_terms.specs.code.Watch.{Watches, IsStopped, NeverFallFrom}
use Rattle.audit_terms.specs.code.runs.Changes.{AreOrderly}
use Rattle.stream_credit.specs.declared.walks.Walk.{Walk}
use Rattle.stream_credit.specs.code.Looks.{met_from, opened_up_to}
use Rattle.stream_credit.specs.code.Changes.{AreFrom, initial_at}
use Rattle.stream_credit.specs.code.Merged.{merged, Acknowledge}
use Rattle.stream_credit.specs.code.QuietStream.{StartsAt}

-- what was found, with what some steps from here on show
abbrev pub found_with : Walk → List Step → List Finding
found_with walk steps =
    walk.found.items ++ shown walk.frames_shown (stream_run_from walk.stream walk.initial walk.entry steps)

-- the stream after some steps from here on
abbrev pub entry_after : Walk → List Step → Stream
entry_after walk steps = stream_after_all walk.stream walk.initial walk.entry steps

-- the numbers of those of some steps that it meets from here on
abbrev pub met_by : Walk → List Step → List ℕ
met_by walk steps = met_from walk.stream walk.initial walk.entry steps

abbrev pub numbers_of : List Step → List ℕ
numbers_of steps = map (λ (step : Step). step.number) steps

-- a step's frame has the step's number
abbrev pub IsNumbered : (number : ℕ) → Option Frame → Type 0
IsNumbered number None = Unit {0}
IsNumbered number (Some frame) = frame.number ≡ number

-- steps in range and in order, the first numbered `low` or above
abbrev pub AreInOrder : (low : ℕ) → List Step → Type 0
AreInOrder low [] = Unit {0}
AreInOrder low (step ∷ steps) =
    (low ≤ step.number) × (step.number ≤ 2 ^ 28 - 2) × IsNumbered step.number step.frame
    × AreInOrder (step.number + 1) steps

-- before each step numbered `number` or above: each step moves a credit by less than 2^32
abbrev pub HasRoomAt : (number : ℕ) → Stream → Type 0
HasRoomAt number entry = (d : Side) → WindowHasRoom (number * 2 ^ 32) (side_of d entry.window)

-- a walk can count the step next
pub record CanCount (walk : Walk) (step : Step) : Type 0 where
  pub numbered : step.number ≤ 2 ^ 28 - 2
  pub streamed : walk.stream < 2 ^ 31
  pub acknowledged : IsAcknowledged step
  pub room : HasRoomAt step.number walk.entry

-- one walk is another, with one more step
pub record HasCounted (old : Walk) (step : Step) (new : Walk) : Type 0 where
  pub stream : new.stream ≡ old.stream
  pub frames_shown : new.frames_shown ≡ old.frames_shown
  pub found : new.found.items
      ≡ old.found.items ++ shown old.frames_shown (in_order (stream_said old.stream old.initial old.entry step))
  pub entry : new.entry ≡ stream_after old.stream old.initial old.entry step
  pub initial : new.initial ≡ initial_after step.change old.initial
  pub met : new.met ≡ old.met
  pub watch : new.watch ≡ old.watch
  pub room : HasRoomAt (step.number + 1) new.entry

-- a run of a stream as a whole: its looker before it, what all steps show, the numbers of those that it meets, the
-- stream after all
pub record WholeRun (L : Type 0) : Type 0 where
  pub start : L
  pub found : List Finding
  pub numbers : List ℕ
  pub entry : Stream

-- a walk in such a run, with some steps still to come, of which none is numbered below `low`
pub record IsAt {L : Type 0} (answers : L → List Finding → Option ℕ → L → Type 0) (run : WholeRun L) (now : L)
    (walk : Walk) (low : ℕ) (steps : List Step) : Type 0 where
  pub streamed : walk.stream < 2 ^ 31
  pub room : HasRoomAt low walk.entry
  pub below : AllByRecursion (λ (found : Finding). place_number found.place < low) walk.found.items
  pub found : found_with walk steps ≡ run.found
  pub entry : entry_after walk steps ≡ run.entry
  pub met : List ℕ
  pub count : length met ≤ low
  pub numbers : met ++ met_by walk steps ≡ run.numbers
  pub order : AreInOrder low steps
  pub watches : Watches answers run.start now run.found met (met_by walk steps) walk.watch

-- the same with the steps of some frames to come, and of the changes that the walk has not met
pub record IsSound {L : Type 0} (answers : L → List Finding → Option ℕ → L → Type 0) (run : WholeRun L) (now : L)
    (walk : Walk) (changes : List Change) (frames : List Frame) : Type 0 where
  pub rise : AreOrderly changes
  pub within : walk.met ≤ length changes
  pub acknowledged : Acknowledge frames changes
  pub initial : walk.initial ≡ initial_at walk.met changes
  pub low : ℕ
  pub at : IsAt answers run now walk low (merged frames (drop walk.met changes))

-- a walk that has met all steps of such a run
abbrev pub HasEnded : {L : Type 0} → (L → List Finding → Option ℕ → L → Type 0) → WholeRun L → L → Walk → Type 0
HasEnded answers run now walk = (low : ℕ) × IsAt answers run now walk low []

-- a walk that has stopped before one of them
pub record HasStopped {L : Type 0} (answers : L → List Finding → Option ℕ → L → Type 0) (run : WholeRun L) (now : L)
    (walk : Walk) : Type 0 where
  pub number : ℕ
  pub found : walk.found.items ≡ found_before number run.found
  pub stopped : IsStopped answers run.start now run.found run.numbers number walk.watch
  pub opened : opened_up_to walk.watch.stop walk.entry.life.opened ≡ opened_up_to walk.watch.stop run.entry.life.opened

-- a walk in some run, before frames that begin at the number, so it can meet the changes before that
pub record CanMeetBefore {L : Type 0} (answers : L → List Finding → Option ℕ → L → Type 0) (now : L) (walk : Walk)
    (changes : List Change) (number : ℕ) : Type 0 where
  pub run : WholeRun L
  pub rest : List Frame
  pub starts : StartsAt number rest
  pub sound : IsSound answers run now walk changes rest

-- a walk comes to have met those changes and to stand before such frames, or has stopped before one of the changes
abbrev pub MeetsBefore : {L : Type 0} → (L → List Finding → Option ℕ → L → Type 0) → (before now : L)
    → (old new : Walk) → List Change → (number : ℕ) → (goes_on : Bool) → Type 0
MeetsBefore {L} answers before now old new changes number goes_on =
    (run : WholeRun L) (rest : List Frame) → StartsAt number rest → IsSound answers run before old changes rest
    → MatchBool goes_on (IsSound answers run now new changes rest × AreFrom number (drop new.met changes))
    (HasStopped answers run now new)

-- a walk that has met no step, after the first look
pub record IsBegun {L : Type 0} (answers : L → List Finding → Option ℕ → L → Type 0) (before now : L) (stream : ℕ)
    (frames_shown : Bool) (walk : Walk) : Type 0 where
  pub own : walk.stream ≡ stream
  pub shows : walk.frames_shown ≡ frames_shown
  pub watch : (whole : List Finding) (numbers : List ℕ) → NeverFallFrom 0 numbers
      → Watches answers before now whole [] numbers walk.watch
  pub entry : walk.entry ≡ idle_stream
  pub initial : walk.initial ≡ initial_in_force.initial
  pub met : walk.met ≡ 0
  pub found : walk.found.items ≡ []
