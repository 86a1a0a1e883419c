-- Packets of worked examples.
use Rattle.std.specs.Prelude.{ℕ, ◌/◌, ◌%◌, Bool, true, false, List, [], ◌∷◌, ◌++◌, length}
use Rattle.packet_heads.specs.Decision.{decision_on}
use Rattle.packet_heads.specs.declared.packets.Packet.{Packet}
use Rattle.packet_heads.specs.declared.packets.Packet.TheVariants as packets

-- the addresses of an Ethernet frame
abbrev pub addresses : List ℕ
addresses = 1 ∷ 2 ∷ 3 ∷ 4 ∷ 5 ∷ 6 ∷ 7 ∷ 8 ∷ 9 ∷ 10 ∷ 11 ∷ 12 ∷ []

-- a VLAN tag
abbrev pub tag : List ℕ
tag = 0x81 ∷ 0x00 ∷ 0x00 ∷ 0x05 ∷ []

-- a number of 16 bits
abbrev pub word : ℕ → List ℕ
word n = n / 256 ∷ n % 256 ∷ []

-- 20 bytes of IPv4, from 10.0.0.1 to 10.0.0.2: version and header length, total length, flags and fragment offset,
-- protocol
abbrev pub ipv4_header : ℕ → ℕ → ℕ → ℕ → List ℕ
ipv4_header first total flags protocol =
    (first ∷ 0 ∷ []) ++ word total ++ word 0 ++ word flags ++ (64 ∷ protocol ∷ 0 ∷ 0 ∷ [])
    ++ (10 ∷ 0 ∷ 0 ∷ 1 ∷ 10 ∷ 0 ∷ 0 ∷ 2 ∷ [])

-- 20 bytes of TCP, from port 40000 to port 80: data offset, control bits
abbrev pub tcp_header : ℕ → ℕ → List ℕ
tcp_header offset bits =
    word 40000 ++ word 80 ++ (0xff ∷ 0xff ∷ 0xff ∷ 0xfc ∷ 0 ∷ 0 ∷ 0 ∷ 0 ∷ [])
    ++ (offset ∷ bits ∷ 0 ∷ 0 ∷ 0 ∷ 0 ∷ 0 ∷ 0 ∷ [])

-- two bytes of payload, and four of options
abbrev pub payload : List ℕ
payload = 1 ∷ 2 ∷ []

abbrev pub options : List ℕ
options = 3 ∷ 4 ∷ 5 ∷ 6 ∷ []

-- headers without options, any total length, and these bytes
abbrev pub datagram_with : ℕ → List ℕ → List ℕ
datagram_with total bytes = ipv4_header 0x45 total 0 6 ++ tcp_header 0x50 0x10 ++ bytes

-- the same with the two bytes: 42 is the total length of all
abbrev pub datagram : ℕ → List ℕ
datagram total = datagram_with total payload

-- a frame of this type, without a tag, with one and with two
abbrev pub framed : ℕ → List ℕ → List ℕ
framed type bytes = addresses ++ word type ++ bytes

abbrev pub tagged : ℕ → List ℕ → List ℕ
tagged type bytes = addresses ++ tag ++ word type ++ bytes

abbrev pub double_tagged : ℕ → List ℕ → List ℕ
double_tagged type bytes = addresses ++ tag ++ tag ++ word type ++ bytes

-- the decision on these captured bytes of record 7, which stand at 40 in the capture, of a packet of this length
abbrev pub of_length : ℕ → ℕ → List ℕ → Packet
of_length original link packet =
    decision_on link 7 (record { nanos = 9; original = original; start = 40; length = length packet }) packet

-- the same where all bytes were captured
abbrev pub whole : ℕ → List ℕ → Packet
whole link packet = of_length (length packet) link packet

-- the segment with this payload and these control bits
abbrev pub segment_with : Bool → Bool → Bool → ℕ → ℕ → Packet
segment_with syn ack snapped lo hi = packets.Segment (record {
  rec = 7;
  nanos = 9;
  from = record { address = 0x0a000001; port = 40000 };
  to = record { address = 0x0a000002; port = 80 };
  seq = 0xfffffffc;
  syn = syn;
  ack = ack;
  lo = lo;
  hi = hi;
  snapped = snapped;
})

-- ACK alone, all of the datagram captured
abbrev pub segment : ℕ → ℕ → Packet
segment lo hi = segment_with false true false lo hi
