-- Where a finding stands: a frame, a rank, a stream.
use Rattle.std.specs.Prelude.{ℕ, ◌+◌, ◌*◌, ◌/◌, ◌%◌, ◌^◌}

-- the place of a frame's number, a rank and a stream: 28, 5 and 31 bits from the top
abbrev pub place_of : (number rank stream : ℕ) → ℕ
place_of number rank stream = (number * 2 ^ 5 + rank) * 2 ^ 31 + stream

-- the frame's number of a place
abbrev pub place_number : ℕ → ℕ
place_number place = place / 2 ^ 36

-- the stream of a place
abbrev pub place_stream : ℕ → ℕ
place_stream place = place % 2 ^ 31
