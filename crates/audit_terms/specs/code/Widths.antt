-- Numbers in bytes: what the bytes of each say, and the bytes that say it.
use Rattle.std.specs.Prelude.{◌≡◌, ℕ, ◌+◌, ◌*◌, ◌/◌, ◌%◌, ◌^◌}
use Rattle.std.specs.Int.{w32, to_le_bytes, from_le_bytes}
use Rattle.audit_terms.specs.declared.widths.Word.TheInside.{Inside as WordInside}
use Rattle.audit_terms.specs.declared.widths.Length.TheInside.{Inside as LengthInside}

-- the number of a word's bytes
abbrev pub word_value : WordInside → ℕ
word_value a = from_le_bytes w32 a.bytes

-- the bytes of a number below 2 ^ 32
abbrev pub word_bytes : ℕ → WordInside
word_bytes number = record { bytes = to_le_bytes w32 number }

-- the bytes are those of their number
abbrev pub IsWord : WordInside → Type 0
IsWord a = word_bytes (word_value a) ≡ a

-- the number of a length's bytes
abbrev pub length_value : LengthInside → ℕ
length_value a = (a.high * 2 ^ 8 + a.middle) * 2 ^ 8 + a.low

-- the bytes of a number below 2 ^ 24
abbrev pub length_bytes : ℕ → LengthInside
length_bytes number = record { high = number / 2 ^ 16; middle = number / 2 ^ 8 % 2 ^ 8; low = number % 2 ^ 8 }

-- the bytes are those of their number
abbrev pub IsLength : LengthInside → Type 0
IsLength a = length_bytes (length_value a) ≡ a
