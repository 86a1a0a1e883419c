-- A time in two words: what they say, and the words that say it.
use Rattle.std.specs.Prelude.{◌≡◌, ℕ, ◌+◌, ◌*◌, ◌/◌, ◌%◌, ◌^◌}
use Rattle.pcap_records.specs.declared.nanos.Nanos.TheInside.{Inside}

-- the number of two words
abbrev pub nanos_value : Inside → ℕ
nanos_value a = a.high * 2 ^ 32 + a.low

-- the words of a number below 2 ^ 64
abbrev pub nanos_words : ℕ → Inside
nanos_words number = record { high = number / 2 ^ 32; low = number % 2 ^ 32 }

-- the words are those of their number
abbrev pub AreWords : Inside → Type 0
AreWords a = nanos_words (nanos_value a) ≡ a
