-- What holds of the parts that records go to.
use Rattle.std.specs.Prelude.{◌≡◌, ◌≢◌, ◌<◌, ℕ, Bool, List, [], Some, length}
use Rattle.pcap_records.specs.Record as pcap
use Rattle.pcap_records.specs.declared.pcap_record.Record.{Record}
use Rattle.packet_heads.specs.Decision.{decision_on}
use Rattle.packet_heads.specs.declared.packets.Endpoint.{Endpoint}
use Rattle.packet_heads.specs.declared.packets.Packet.TheVariants as packets
use Rattle.packet_heads.specs.declared.packets.Segment.{Segment}
use Rattle.capture_parts.specs.Dealt.{AreRecords, given, part_at}
use Rattle.capture_parts.specs.Files.{order_of}
use Rattle.capture_parts.specs.Pair.{front_of, pair_of, part_of}

-- whatever is taken of a record of which there is a byte: its own part gets it, and no other part anything
abbrev pub OnePart : Type 0
OnePart = (link parts : ℕ) (taken : ℕ → List ℕ → List ℕ) (n : ℕ) (bytes : List ℕ) → 0 < length bytes
    → (given link parts taken (part_at link parts n bytes) n bytes ≡ taken n bytes)
    × ((i : ℕ) → i ≢ part_at link parts n bytes → given link parts taken i n bytes ≡ [])

-- a packet that holds a segment names its endpoints
abbrev pub SegmentsName : Type 0
SegmentsName = (link number : ℕ) (row : Record) (packet : List ℕ) (s : Segment)
    → decision_on link number row packet ≡ packets.Segment s
    → pair_of link (front_of packet) ≡ Some (record { from = s.from; to = s.to })

-- either order of two endpoints goes to the same part, whatever the records' numbers
abbrev pub EitherOrder : Type 0
EitherOrder = (parts n m : ℕ) (a b : Endpoint)
    → part_of parts n (Some (record { from = a; to = b })) ≡ part_of parts m (Some (record { from = b; to = a }))

-- the records that are dealt are those that the reader of the whole finds: as many, before the same rest
abbrev pub SameRecords : Type 0
SameRecords = (is_little : Bool) (unit at : ℕ) (bytes : List ℕ) (records : List (List ℕ)) (rest : List ℕ)
    → AreRecords (order_of is_little) bytes records rest
    → (rows : List Record) × (length rows ≡ length records)
    × pcap.AreRecords (order_of is_little) unit at bytes rows rest
