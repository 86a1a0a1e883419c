-- What stands before the IPv4 datagram of a record, by the link type of the capture: the header of an Ethernet
-- frame, or nothing.
use Rattle.std.specs.Prelude.{ℕ, ◌+◌, ◌==◌, List, slice_range, if◌then◌else◌}
use Rattle.pcap_records.specs.LinkType.{raw_ip}
use Rattle.pcap_records.specs.declared.pcap_record.Record.{Record}
use Rattle.packet_heads.specs.Ethernet.{header_length}

-- the captured bytes of a record's packet
abbrev pub packet_of : Record → List ℕ → List ℕ
packet_of row capture = slice_range capture row.start (row.start + row.length)

-- where the datagram begins in the packet
abbrev pub datagram_start : ℕ → List ℕ → ℕ
datagram_start link packet = if link == raw_ip then 0 else header_length packet
