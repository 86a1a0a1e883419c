-- Worked examples: a round of two workers, what it leaves and what its parts merge to, and steps that no worker may
-- take.
use Rattle.std.specs.Prelude.{◌≡◌, ℕ, pos, ◌-ℤ◌, List, [], ◌∷◌, Option, Some, None}
use Rattle.audit_terms.specs.declared.sides.Side.TheVariants.{Client}
use Rattle.audit_terms.specs.declared.kinds.Kind.TheVariants.{StreamOverrun, NotOpened}
use Rattle.audit_terms.specs.declared.findings.Finding.{Finding}
use Rattle.audit_terms.specs.Finding.{finding_at, in_order, upto_stop}
use Rattle.stop_desk.specs.code.Board.{Job, RoundView, PartView, Board, IsSettled, findings_of_jobs, findings_of_parts}
use Rattle.stop_desk.specs.laws.Machine.{Event, Draw, Look, Lower, Finish, round_start, after_events, AreAllowed}
use Rattle.stop_desk.specs.laws.Machine.{IsFinished, board_of}

abbrev pub overrun : (number stream : ℕ) → Finding
overrun number stream = finding_at StreamOverrun number stream Client (pos 0 -ℤ pos 1)

-- an error of the connection
abbrev pub error : (number stream : ℕ) → Finding
error number stream = finding_at NotOpened number stream Client (pos 0)

abbrev pub job : (connection : ℕ) → List Finding → Job
job connection findings = record { connection = connection; findings = findings }

abbrev pub part : (job connection : ℕ) → Option ℕ → List Finding → PartView
part job connection upto findings =
    record { job = job; connection = connection; upto = upto; findings = findings }

-- connection 0 has two jobs, and an error at frame 7 in the second; connection 1 has one job, and no error
abbrev pub example : RoundView
example = record {
  jobs =
      job 0 (overrun 6 1 ∷ overrun 9 1 ∷ [])
      ∷ job 0 (error 7 3 ∷ overrun 8 3 ∷ [])
      ∷ job 1 (overrun 10 1 ∷ [])
      ∷ [];
  opening_stops = None ∷ None ∷ [];
}

-- worker 1 meets the error and lowers the stop to it; worker 0 sees that, and leaves out what it found past it
abbrev pub example_events : List Event
example_events =
    Draw 0 0 ∷ Look 0 0 None ∷ Draw 1 1 ∷ Lower 1 0 (error 7 3).place ∷ Look 0 0 (Some (error 7 3).place)
    ∷ Finish 0 (part 0 0 (Some (error 7 3).place) (overrun 6 1 ∷ []))
    ∷ Draw 0 2
    ∷ Finish 1 (part 1 0 None (error 7 3 ∷ overrun 8 3 ∷ []))
    ∷ Draw 1 3
    ∷ Finish 0 (part 2 1 None (overrun 10 1 ∷ []))
    ∷ Draw 0 4
    ∷ []

-- the last part that was laid down stands first
abbrev pub example_board : Board
example_board = record {
  parts =
      part 2 1 None (overrun 10 1 ∷ [])
      ∷ part 1 0 None (error 7 3 ∷ overrun 8 3 ∷ [])
      ∷ part 0 0 (Some (error 7 3).place) (overrun 6 1 ∷ [])
      ∷ [];
  seen = (0, (error 7 3).place) ∷ [];
  lowered = (0, (error 7 3).place) ∷ [];
  stops = Some (error 7 3).place ∷ None ∷ [];
}

-- all this is allowed, finishes every job, and leaves that board
pub record TwoWorkersFinish : Type 0 where
  pub allowed : AreAllowed example (round_start example) example_events
  pub finished : IsFinished example (after_events (round_start example) example_events)
  pub left : board_of (after_events (round_start example) example_events) ≡ example_board

abbrev pub TwoWorkersSettle : Type 0
TwoWorkersSettle = IsSettled example example_board

-- the parts and the whole jobs give the same findings up to the error; the overruns at frames 8 and 9 are withdrawn
abbrev pub TwoWorkersMerge : Type 0
TwoWorkersMerge =
    (upto_stop (in_order (findings_of_parts 0 example_board.parts)) ≡ overrun 6 1 ∷ error 7 3 ∷ [])
    × (upto_stop (in_order (findings_of_jobs 0 example.jobs)) ≡ overrun 6 1 ∷ error 7 3 ∷ [])

-- no run has these events
abbrev pub IsRefused : List Event → Type 0
IsRefused events = AreAllowed example (round_start example) events → ⊥

-- a number is drawn twice
abbrev pub DrawnTwice : Type 0
DrawnTwice = IsRefused (Draw 0 0 ∷ Draw 1 0 ∷ [])

-- a look invents a place
abbrev pub LookInvents : Type 0
LookInvents = IsRefused (Draw 0 0 ∷ Look 0 0 (Some (error 7 3).place) ∷ [])

-- a part goes up to a place that its worker did not see, though another lowered it
abbrev pub CutUnseen : Type 0
CutUnseen =
    IsRefused (Draw 0 0 ∷ Draw 1 1 ∷ Lower 1 0 (error 7 3).place
    ∷ Finish 0 (part 0 0 (Some (error 7 3).place) (overrun 6 1 ∷ [])) ∷ [])

-- a part leaves out what lies before its place
abbrev pub AllSkipped : Type 0
AllSkipped =
    IsRefused (Draw 0 0 ∷ Draw 1 1 ∷ Lower 1 0 (error 7 3).place ∷ Look 0 0 (Some (error 7 3).place)
    ∷ Finish 0 (part 0 0 (Some (error 7 3).place) []) ∷ [])

-- an overrun is lowered, which is no error of the connection
abbrev pub OverrunLowered : Type 0
OverrunLowered = IsRefused (Draw 0 0 ∷ Lower 0 0 (overrun 6 1).place ∷ [])

-- a part has an error that its worker did not lower
abbrev pub ErrorNotLowered : Type 0
ErrorNotLowered = IsRefused (Draw 0 0 ∷ Draw 1 1 ∷ Finish 1 (part 1 0 None (error 7 3 ∷ overrun 8 3 ∷ [])) ∷ [])
