-- What a caller knows of a desk, of a pass, and of a closed desk.
use Rattle.std.specs.Prelude.{ℕ, ◌+◌, ◌*◌, ◌<◌, List, [], Option, length, slice_index}
use Rattle.atomic_table.specs.Seated.{TableId}
use Rattle.stop_desk.specs.code.Counts.{marks}
use Rattle.audit_terms.specs.code.Places.{place_at}

-- Which desk it is: no two desks share one table. `opened` are the words that it was opened with: 0, the first number
-- to draw, and a stop for each connection.
pub record DeskId : Type 0 where
  pub table : TableId
  pub opened : List ℕ

pub record DeskView : Type 0 where
  pub id : DeskId
  pub jobs : ℕ
  pub workers : ℕ

-- A pass of a desk, how many numbers it may still draw, those that it drew, and the places that it saw and lowered,
-- each beside its connection
pub record PassView : Type 0 where
  pub desk : DeskId
  pub allowance : ℕ
  pub drawn : List ℕ
  pub seen : List (ℕ × ℕ)
  pub lowered : List (ℕ × ℕ)

-- A closed desk: its last words, and what the last pass knew
pub record ClosedView : Type 0 where
  pub desk : DeskId
  pub words : List ℕ
  pub drawn : List ℕ
  pub seen : List (ℕ × ℕ)
  pub lowered : List (ℕ × ℕ)

abbrev pub desk_of : DeskId → (jobs workers : ℕ) → DeskView
desk_of id jobs workers = record { id = id; jobs = jobs; workers = workers }

abbrev pub pass_of : DeskId → (allowance : ℕ) → (drawn : List ℕ) → (seen lowered : List (ℕ × ℕ)) → PassView
pass_of desk allowance drawn seen lowered =
    record { desk = desk; allowance = allowance; drawn = drawn; seen = seen; lowered = lowered }

-- the pass of so many workers that has drawn, seen and lowered nothing: for each of them each job once, and one more
abbrev pub unused : DeskView → (workers : ℕ) → PassView
unused desk workers = pass_of desk.id (workers * (desk.jobs + 1)) [] [] []

abbrev pub closed_of : DeskId → (words drawn : List ℕ) → (seen lowered : List (ℕ × ℕ)) → ClosedView
closed_of desk words drawn seen lowered =
    record { desk = desk; words = words; drawn = drawn; seen = seen; lowered = lowered }

-- all numbers that may be drawn: each job once, and one more for each worker, which tells it that no job is left
abbrev pub all_draws : DeskView → ℕ
all_draws d = d.workers * (d.jobs + 1)

-- the numbers that a pass drew and those that it may still draw, counted
abbrev pub pass_draws : PassView → ℕ
pass_draws v = length v.drawn + v.allowance

-- the desk has a stop for connection c
abbrev pub IsConnection : DeskId → ℕ → Type 0
IsConnection d c = c + 1 < length d.opened

abbrev pub opening_stop : DeskId → ℕ → Option ℕ
opening_stop d c = place_at (slice_index d.opened (c + 1))

abbrev pub final_stop : ClosedView → ℕ → Option ℕ
final_stop k c = place_at (slice_index k.words (c + 1))

-- the pass saw, or lowered, the place p for connection c
abbrev pub HasSeen : PassView → (c p : ℕ) → Type 0
HasSeen v c p = 0 < marks c p v.seen

abbrev pub HasLowered : PassView → (c p : ℕ) → Type 0
HasLowered v c p = 0 < marks c p v.lowered
