-- A stop as a word of the desk.
use Rattle.std.specs.Prelude.{ℕ, ◌<◌, Option, Some, None, ⊤}
use Rattle.audit_terms.specs.code.Places.{no_place, past_places}

abbrev pub IsPlace : ℕ → Type 0
IsPlace p = p < past_places

-- a stop is none or a place
abbrev pub IsStop : Option ℕ → Type 0
IsStop None = ⊤
IsStop (Some p) = IsPlace p

-- the word of a stop: the place, and all ones for none
abbrev pub stop_word : Option ℕ → ℕ
stop_word None = no_place
stop_word (Some p) = p
