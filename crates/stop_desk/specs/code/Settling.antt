-- What a round of workers leaves, in the order of its jobs.
use Rattle.std.specs.Prelude.{◌≡◌, ℕ, ◌≤◌, List, Option, Some, All, map, length, slice_get, Contains}
use Rattle.stop_desk.specs.code.Stop.{IsStop}
use Rattle.stop_desk.specs.code.Board.{Job, IsSettled, stop_of}
use Rattle.stop_desk.specs.declared.parts.Part.{Part}
use Rattle.stop_desk.specs.declared.settling.Settled.{Settled}
use Rattle.stop_desk.specs.code.Laid.{part_of, board_with}

-- all jobs are done: the board is settled, each job's part stands in its turn, and no part was cut below the stop
pub record HasSettled {M : Type 0} (makes : ℕ → Option ℕ → M → Type 0) (jobs : List Job) (opening : List (Option ℕ))
    (settled : Settled M) : Type 0 where
  pub seen : List (ℕ × ℕ)
  pub lowered : List (ℕ × ℕ)
  pub board : IsSettled (record { jobs = jobs; opening_stops = opening })
      (board_with (map part_of settled.parts.items) seen lowered settled.stops.items)
  pub count : length settled.parts.items ≡ length jobs
  pub in_order : (n : ℕ) (part : Part M) → slice_get settled.parts.items n ≡ Some part →
      (part.job ≡ n) × makes n part.upto part.made
  pub connections : length settled.stops.items ≡ length opening
  pub places : All IsStop settled.stops.items
  pub heeded : (part : Part M) → Contains settled.parts.items part → (place : ℕ) → part.upto ≡ Some place →
      (stop : ℕ) × (stop_of settled.stops.items part.connection ≡ Some stop) × (stop ≤ place)
