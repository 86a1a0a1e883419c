-- The rank that a place holds, and which words are places.
use Rattle.std.specs.Prelude.{ℕ, ◌-◌, ◌/◌, ◌%◌, ◌^◌, Option, Some, None, nat_lt, if◌then◌else◌}
use Rattle.audit_terms.specs.Place.{place_of}

-- the rank of a place
abbrev pub place_rank : ℕ → ℕ
place_rank place = place / 2 ^ 31 % 2 ^ 5

-- the first word past all places, whose frame numbers end at 2^28 - 2
abbrev pub past_places : ℕ
past_places = place_of (2 ^ 28 - 1) 0 0

-- the place that a word is, if it is one
abbrev pub place_at : ℕ → Option ℕ
place_at word = if nat_lt word past_places then Some word else None

-- the word of all ones, which is no place
abbrev pub no_place : ℕ
no_place = 2 ^ 64 - 1
