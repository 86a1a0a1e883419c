-- An IPv4 datagram as far as it was captured, and what may be captured behind it (RFC 791, 3.1). All
-- numbers are big-endian.
use Rattle.std.specs.Prelude.{ℕ, ◌*◌, ◌/◌, ◌%◌, ◌^◌, ◌==◌, ◌&&◌, ◌||◌, Bool, not, nat_lt, min, List, length, drop}
use Rattle.std.specs.Prelude.{slice_index, slice_range, if◌then◌else◌}
use Rattle.byteorder.specs.Endian.{big_number}

-- Version: the high 4 bits of byte 0
unfoldable pub version : List ℕ → ℕ
version datagram = slice_index datagram 0 / 2 ^ 4

-- Internet Header Length, in words of 4 bytes: the low 4 bits of byte 0
unfoldable pub header_words : List ℕ → ℕ
header_words datagram = slice_index datagram 0 % 2 ^ 4

-- Total Length, of header and data, in bytes
unfoldable pub total_length : List ℕ → ℕ
total_length datagram = big_number 2 (drop 2 datagram)

-- a part of a datagram, and no whole one: More Fragments or the Fragment Offset, the low 14 bits, is not 0
unfoldable pub is_fragment : List ℕ → Bool
is_fragment datagram = not (big_number 2 (drop 6 datagram) % 2 ^ 14 == 0)

-- Protocol: 6 for TCP
unfoldable pub protocol : List ℕ → ℕ
protocol datagram = slice_index datagram 9

-- Source Address
unfoldable pub source_address : List ℕ → ℕ
source_address datagram = big_number 4 (drop 12 datagram)

-- Destination Address
unfoldable pub destination_address : List ℕ → ℕ
destination_address datagram = big_number 4 (drop 16 datagram)

-- the header's length in bytes, options included
abbrev pub header_length : List ℕ → ℕ
header_length datagram = 4 * header_words datagram

-- Where the datagram's captured bytes end: bytes past the total length are not part of it. A total
-- length of 0, which a sender with segmentation offload leaves, stands for all bytes: this profile's choice.
abbrev pub datagram_end : List ℕ → ℕ
datagram_end datagram =
    if total_length datagram == 0 then length datagram else min (total_length datagram) (length datagram)

-- the captured bytes behind the header
abbrev pub segment_bytes : List ℕ → List ℕ
segment_bytes datagram = slice_range datagram (header_length datagram) (datagram_end datagram)

-- was less captured than the datagram holds? partial: fewer bytes of the packet were captured than it had
abbrev pub is_snapped : Bool → List ℕ → Bool
is_snapped partial datagram =
    nat_lt (length datagram) (total_length datagram) || (total_length datagram == 0 && partial)
