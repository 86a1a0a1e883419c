-- What a crew leaves on a desk.
use Rattle.std.specs.Prelude.{◌≡◌, ℕ, ◌+◌, List, [], ◌∷◌, Option, map, drop, Contains}
use Rattle.audit_terms.specs.code.Places.{place_at}
use Rattle.stop_desk.specs.code.Desk.{DeskId, ClosedView, final_stop}
use Rattle.stop_desk.specs.code.Board.{Job, IsSettled}
use Rattle.stop_desk.specs.declared.audit_round.AuditRound.{AuditRound}
use Rattle.stop_desk.specs.declared.parts.Part.{Part}
use Rattle.stop_desk.specs.code.Laid.{part_of, board_with}

-- the stop of each connection as the desk was opened
abbrev pub opening_stops : DeskId → List (Option ℕ)
opening_stops desk = map place_at (drop 1 desk.opened)

-- the last stop of each connection from `first` on, one for each of these words
abbrev pub last_stops_from : ClosedView → (first : ℕ) → (words : List ℕ) → List (Option ℕ)
last_stops_from closed first [] = []
last_stops_from closed first (word ∷ words) = final_stop closed first ∷ last_stops_from closed (first + 1) words

-- the last stop of each connection
abbrev pub last_stops : ClosedView → List (Option ℕ)
last_stops closed = last_stops_from closed 0 (drop 1 closed.desk.opened)

-- all jobs of the round are done on the desk, which is closed: the board is settled, and the parts are as they may be
pub record IsDone {M : Type 0} (makes : ℕ → Option ℕ → M → Type 0) (jobs : List Job) (desk : DeskId)
    (round : AuditRound) (parts : List (Part M)) (closed : ClosedView) : Type 0 where
  pub desk_is : closed.desk ≡ desk
  pub board : IsSettled (record { jobs = jobs; opening_stops = opening_stops desk })
      (board_with (map part_of parts) closed.seen closed.lowered (last_stops closed))
  pub made : (part : Part M) → Contains parts part → (part.round ≡ round) × makes part.job part.upto part.made
