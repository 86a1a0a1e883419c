-- What a round of workers leaves, and what can be made of it.
use Rattle.std.specs.Prelude.{◌≡◌, ℕ, ◌<◌, List, ◌++◌, length, Contains}
use Rattle.audit_terms.specs.declared.findings.Finding.{Finding}
use Rattle.audit_terms.specs.Finding.{in_order, upto_stop}
use Rattle.audit_terms.specs.code.Stops.{IsLeast, StopsAt}
use Rattle.stop_desk.specs.code.Board.{Job, RoundView, Board, stop_of, IsSettled, findings_of_jobs}
use Rattle.stop_desk.specs.code.Board.{findings_of_parts}
use Rattle.stop_desk.specs.laws.Machine.{Event, round_start, after_events, AreAllowed, IsFinished, board_of}

-- each job is of one of the round's connections
abbrev pub HasConnections : RoundView → Type 0
HasConnections round = (job : Job) → Contains round.jobs job → job.connection < length round.opening_stops

-- every finished run ends in a settled board
abbrev pub RunSettles : Type 0
RunSettles = (round : RoundView) → HasConnections round → (events : List Event) →
    AreAllowed round (round_start round) events → IsFinished round (after_events (round_start round) events) →
    IsSettled round (board_of (after_events (round_start round) events))

-- for a connection whose earlier findings have the opening stop as their least error: its parts give, up to the stop,
-- the same findings as its whole jobs; the board's stop is the least error of all, and of what the parts keep
pub record Merges (round : RoundView) (board : Board) (connection : ℕ) (earlier : List Finding) : Type 0 where
  pub findings : upto_stop (in_order (earlier ++ findings_of_parts connection board.parts))
      ≡ upto_stop (in_order (earlier ++ findings_of_jobs connection round.jobs))
  pub stop : IsLeast (StopsAt (earlier ++ findings_of_jobs connection round.jobs)) (stop_of board.stops connection)
  pub kept_stop :
      IsLeast (StopsAt (earlier ++ findings_of_parts connection board.parts)) (stop_of board.stops connection)

-- so it is for every settled board
abbrev pub BoardMerges : Type 0
BoardMerges = (round : RoundView) (board : Board) → IsSettled round board → (connection : ℕ) (earlier : List Finding) →
    IsLeast (StopsAt earlier) (stop_of round.opening_stops connection) →
    Merges round board connection earlier
