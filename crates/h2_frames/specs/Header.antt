-- The frame header (RFC 9113, 4.1): nine bytes, all numbers in network byte order (2.2).
use Rattle.std.specs.Prelude.{ℕ, ◌%◌, ◌^◌, List, drop, slice_index}
use Rattle.byteorder.specs.Endian.{big_number}
use Rattle.h2_frames.specs.declared.headers.Header.{Header}

-- a number of 31 bits behind a reserved bit, which a receiver ignores
abbrev pub number_of_31_bits : List ℕ → ℕ
number_of_31_bits bytes = big_number 4 bytes % 2 ^ 31

-- the payload's length in 24 bits, the type in 8, the flags in 8, a reserved bit, the stream identifier in 31
-- //= https://www.rfc-editor.org/rfc/rfc9113#section-4.1
-- //# All frames begin with a fixed 9-octet header followed by a variable-length frame payload.
abbrev pub header_of : List ℕ → Header
header_of bytes = record {
  length = big_number 3 bytes;
  code = slice_index bytes 3;
  flags = slice_index bytes 4;
  stream = number_of_31_bits (drop 5 bytes);
}
