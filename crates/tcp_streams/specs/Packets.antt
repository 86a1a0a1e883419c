-- The segments of a capture, as its packets show them.
use Rattle.std.specs.Prelude.{ℕ, ◌-◌, List, Option, None, Some, slice_get, option_and_then}
use Rattle.packet_heads.specs.declared.packets.Packet.{Packet}
use Rattle.packet_heads.specs.declared.packets.Packet.TheVariants.{Segment as Carried, Skipped, Refused}
use Rattle.packet_heads.specs.declared.packets.Segment.{Segment}

-- the segment that a packet carries
abbrev pub segment_in : Packet → Option Segment
segment_in (Carried s) = Some s
segment_in (Skipped _) = None
segment_in (Refused _) = None

-- the segment in the record with this number: records are numbered from 1
abbrev pub segment_of : List Packet → ℕ → Option Segment
segment_of packets rec = option_and_then segment_in (slice_get packets (rec - 1))
