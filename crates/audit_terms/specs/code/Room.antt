-- How far the credits that the code counts may be from 0, so that no sum wraps.
use Rattle.std.specs.Prelude.{ℕ, ℤ, ◌+◌, ◌^◌, pos, neg_ℤ, ◌≤ℤ◌, Option}
use Rattle.std.specs.Option.{ForSome}
use Rattle.audit_terms.specs.declared.sides.Sides.{Sides}

-- the credit is at most this far from 0
abbrev pub HasRoom : (bound : ℕ) → ℤ → Type 0
HasRoom bound credit = (neg_ℤ (pos bound) ≤ℤ credit) × (credit ≤ℤ pos bound)

-- the credit of the window, if it is live, is at most this far from 0
abbrev pub WindowHasRoom : (bound : ℕ) → Option ℤ → Type 0
WindowHasRoom bound window = ForSome window (HasRoom bound)

-- the credits of both sides are at most this far from 0
abbrev pub HaveRoom : (bound : ℕ) → Sides ℤ → Type 0
HaveRoom bound credits = HasRoom bound credits.client × HasRoom bound credits.server

-- each side's credit moved by at most 2^32
abbrev pub HaveMovedLittle : (before after : Sides ℤ) → Type 0
HaveMovedLittle before after =
    ((bound : ℕ) → HasRoom bound before.client → HasRoom (bound + 2 ^ 32) after.client)
    × ((bound : ℕ) → HasRoom bound before.server → HasRoom (bound + 2 ^ 32) after.server)
