-- A TCP segment as far as it was captured (RFC 9293, 3.1). All numbers are big-endian.
use Rattle.std.specs.Prelude.{ℕ, ◌*◌, ◌/◌, ◌^◌, ◌==◌, Bool, List, drop, slice_index}
use Rattle.std.specs.Int.{bit_at}
use Rattle.byteorder.specs.Endian.{big_number}

-- Source Port
unfoldable pub source_port : List ℕ → ℕ
source_port segment = big_number 2 segment

-- Destination Port
unfoldable pub destination_port : List ℕ → ℕ
destination_port segment = big_number 2 (drop 2 segment)

-- Sequence Number
unfoldable pub sequence_number : List ℕ → ℕ
sequence_number segment = big_number 4 (drop 4 segment)

-- Data Offset, in words of 4 bytes: the high 4 bits of byte 12
unfoldable pub data_offset : List ℕ → ℕ
data_offset segment = slice_index segment 12 / 2 ^ 4

-- Control bits, byte 13: bit 1, counted from 0 at the right, is SYN
unfoldable pub syn : List ℕ → Bool
syn segment = bit_at (slice_index segment 13) 1 == 1

-- and bit 4, counted from 0 at the right, is ACK
unfoldable pub ack : List ℕ → Bool
ack segment = bit_at (slice_index segment 13) 4 == 1

-- the header's length in bytes, options included
abbrev pub header_length : List ℕ → ℕ
header_length segment = 4 * data_offset segment
