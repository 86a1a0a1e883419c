-- On records: how long an Ethernet header is at least, and where packets stand.
use Rattle.std.proofs.Common.{ℕ, ◌≤◌, List, arith}
use Rattle.pcap_records.specs.declared.pcap_record.Record.{Record}
use Rattle.packet_heads.specs.Ethernet.{header_length}
use Rattle.packet_heads.specs.declared.packets.Packet.{Packet}
use Rattle.packet_heads.specs.declared.packets.Packet.TheVariants.{Segment}
use Rattle.packet_heads.specs.code.Standing.{StandsIn, IsPassedOver}

pub least : (frame : List ℕ) → 14 ≤ header_length frame
unfolding header_length
least frame = grind arith

-- what is no segment may stand anywhere
pub stands_anywhere : (number : ℕ) (row : Record) (p : Packet) → IsPassedOver p → StandsIn number row p
stands_anywhere number row (Segment s) h = absurd h
stands_anywhere number row _ h = tt
