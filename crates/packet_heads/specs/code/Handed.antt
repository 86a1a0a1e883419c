-- What is handed on of the records of a capture: packets, and the payloads of segments.
use Rattle.std.specs.Prelude.{◌≡◌, ℕ, ◌+◌, ◌-◌, ◌^◌, ◌<◌, ◌≤◌, List, [], ◌∷◌, ◌++◌, length, map, slice_range}
use Rattle.pcap_records.specs.code.Walk.{Captured}
use Rattle.pcap_records.specs.declared.pcap_record.Record.{Record}
use Rattle.packet_heads.specs.declared.packets.Packet.{Packet}
use Rattle.packet_heads.specs.declared.packets.Packet.TheVariants.{Segment}
use Rattle.packet_heads.specs.declared.packets.Segment.{Segment as TcpSegment}
use Rattle.packet_heads.specs.Decision.{decision_on}
use Rattle.packet_heads.specs.code.Order.{AreNumberedFrom, PayloadsRise}
use Rattle.packet_heads.specs.code.Standing.{StandsIn}

-- a packet, and its payload
abbrev pub Handed : Type 0
Handed = Packet × List ℕ

abbrev pub packets_among : List Handed → List Packet
packets_among handed = map (λ (one : Handed). one.0) handed

-- the payload of a packet whose record has these captured bytes: that of a segment, or none
abbrev pub payload_in : Record → List ℕ → Packet → List ℕ
payload_in row packet (Segment s) = slice_range packet (s.lo - row.start) (s.hi - row.start)
payload_in row packet _ = []

-- what is handed on of a record with this number: the decision on its captured bytes, and the payload
pub record IsHanded (link number : ℕ) (one : Captured) (handed : Handed) : Type 0 where
  pub decided : handed.0 ≡ decision_on link number one.0 one.1
  pub stands : StandsIn number one.0 handed.0
  pub payload : handed.1 ≡ payload_in one.0 one.1 handed.0

-- and of records of which the first has this number
abbrev pub AreHanded : (link number : ℕ) → List Captured → List Handed → Type 0
AreHanded link number [] [] = Unit {0}
AreHanded link number (one ∷ seen) (first ∷ handed) =
    IsHanded link number one first × AreHanded link (number + 1) seen handed
AreHanded link number _ _ = ⊥

-- a segment with its payload, none of which stands past 2 ^ 31, and its time
pub record IsCarried (s : TcpSegment) (payload : List ℕ) : Type 0 where
  pub ordered : s.lo ≤ s.hi
  pub within : s.hi ≤ 2 ^ 31
  pub size : length payload ≡ s.hi - s.lo
  pub timely : s.nanos < 2 ^ 63

-- the same of what a packet carries
abbrev pub HasPayload : Packet → List ℕ → Type 0
HasPayload (Segment s) payload = IsCarried s payload
HasPayload _ payload = Unit {0}

-- the packet with this payload comes next, behind these: all payloads stand one after the other behind the file header
pub record IsNextPacket (handed : List Handed) (packet : Packet) (payload : List ℕ) : Type 0 where
  pub few : length handed < 2 ^ 27
  pub numbered : AreNumberedFrom (length handed + 1) (packet ∷ [])
  pub has : HasPayload packet payload
  pub rise : PayloadsRise 24 (2 ^ 31) (packets_among handed ++ packet ∷ [])

-- each segment's payload are the bytes that stand in the capture from its first offset to its last
abbrev pub ArePayloadsOf : List ℕ → List Handed → Type 0
ArePayloadsOf capture [] = Unit {0}
ArePayloadsOf capture ((Segment s, payload) ∷ later) =
    (payload ≡ slice_range capture s.lo s.hi) × ArePayloadsOf capture later
ArePayloadsOf capture (_ ∷ later) = ArePayloadsOf capture later
