-- The machine of workers: one round, in which workers draw jobs, see the stops of connections, lower them, and finish
-- jobs. An event is a step of one worker, and a run is any list of allowed events: so a run is any interleaving of any
-- number of workers.
use Rattle.std.specs.Prelude.{◌≡◌, ◌≢◌, ℕ, ◌+◌, ◌<◌, ◌==◌, if◌then◌else◌, List, [], ◌∷◌, length, map, slice_get}
use Rattle.std.specs.Prelude.{slice_set, Contains, Option, Some, None}
use Rattle.audit_terms.specs.code.Stops.{StopsAt, lesser_place}
use Rattle.stop_desk.specs.code.Board.{Job, RoundView, PartView, Board, stop_of, IsPartOf, parts_of}

-- the next number to draw, the stops so far, and what was done by whom: each entry names its worker first
pub record RoundState : Type 0 where
  pub next : ℕ
  pub stops : List (Option ℕ)
  pub drawn : List (ℕ × ℕ)
  pub seen : List (ℕ × (ℕ × ℕ))
  pub lowered : List (ℕ × (ℕ × ℕ))
  pub parts : List (ℕ × PartView)

pub data Event : Type 0 where
  -- the worker takes a number
  Draw : (worker number : ℕ) → Event
  -- the worker sees where the connection stops, if it does
  Look : (worker connection : ℕ) → (stop : Option ℕ) → Event
  -- the worker lowers the connection's stop to a place
  Lower : (worker connection place : ℕ) → Event
  -- the worker lays down the part of a job
  Finish : (worker : ℕ) → (part : PartView) → Event

-- what this worker did
abbrev pub by_worker : {X : Type 0} → (worker : ℕ) → List (ℕ × X) → List X
by_worker worker [] = []
by_worker worker (entry ∷ entries) =
    if entry.0 == worker then entry.1 ∷ by_worker worker entries else by_worker worker entries

-- what all workers did
abbrev pub by_all : {X : Type 0} → List (ℕ × X) → List X
by_all {X} entries = map (λ (entry : ℕ × X). entry.1) entries

-- nothing is drawn yet
abbrev pub round_start : RoundView → RoundState
round_start round = record {
  next = 0;
  stops = round.opening_stops;
  drawn = [];
  seen = [];
  lowered = [];
  parts = [];
}

-- the worker drew this number, and has not finished the job
abbrev pub IsAtWork : RoundState → (worker number : ℕ) → Type 0
IsAtWork state worker number =
    Contains state.drawn (worker, number) × (parts_of number (by_worker worker state.parts) ≡ 0)

-- the number drawn is the next; a look sees the stop that stands there; what is lowered is an error of a job at work; a
-- part goes up to a place that its worker saw, and its worker has lowered where it stops
abbrev pub IsAllowed : RoundView → RoundState → Event → Type 0
IsAllowed round state (Draw worker number) = number ≡ state.next
IsAllowed round state (Look worker connection stop) = stop ≡ stop_of state.stops connection
IsAllowed round state (Lower worker connection place) =
    (number : ℕ) × (job : Job) × IsAtWork state worker number × (slice_get round.jobs number ≡ Some job)
    × (job.connection ≡ connection)
    × StopsAt job.findings place
IsAllowed round state (Finish worker part) =
    (job : Job) × IsAtWork state worker part.job × (slice_get round.jobs part.job ≡ Some job)
    × IsPartOf (by_worker worker state.seen) (by_worker worker state.lowered) job part

-- what an event leaves
abbrev pub after_event : RoundState → Event → RoundState
after_event state (Draw worker number) =
    record state { next = state.next + 1; drawn = (worker, number) ∷ state.drawn }
after_event state (Look worker connection None) = state
after_event state (Look worker connection (Some place)) =
    record state { seen = (worker, (connection, place)) ∷ state.seen }
after_event state (Lower worker connection place) =
    record state {
      lowered = (worker, (connection, place)) ∷ state.lowered;
      stops = slice_set state.stops connection (lesser_place (stop_of state.stops connection) (Some place));
    }
after_event state (Finish worker part) = record state { parts = (worker, part) ∷ state.parts }

-- the state after these events
abbrev pub after_events : RoundState → List Event → RoundState
after_events state [] = state
after_events state (event ∷ events) = after_events (after_event state event) events

-- each event is allowed in its turn
abbrev pub AreAllowed : RoundView → RoundState → List Event → Type 0
AreAllowed round state [] = Unit {0}
AreAllowed round state (event ∷ events) =
    IsAllowed round state event × AreAllowed round (after_event state event) events

-- every job is finished
abbrev pub IsFinished : RoundView → RoundState → Type 0
IsFinished round state = (job : ℕ) → job < length round.jobs → parts_of job (by_all state.parts) ≢ 0

-- what the state leaves, whoever did it
abbrev pub board_of : RoundState → Board
board_of state = record {
  parts = by_all state.parts;
  seen = by_all state.seen;
  lowered = by_all state.lowered;
  stops = state.stops;
}
