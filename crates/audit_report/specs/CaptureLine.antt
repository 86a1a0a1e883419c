-- The first line: how many whole records the capture has, and how many of them are what.
use Rattle.std.specs.Prelude.{ℕ, List, Bool, true, false, length, count_by, ◌++◌, codes}
use Rattle.audit_report.specs.Line.{line, field}
use Rattle.pcap_records.specs.declared.pcap_record.Record.{Record}
use Rattle.packet_heads.specs.declared.packets.Packet.{Packet}
use Rattle.packet_heads.specs.declared.packets.Packet.TheVariants.{Segment, Skipped, Refused}
use Rattle.packet_heads.specs.declared.packets.Skip.TheVariants.{NotIpv4, Fragment, NotTcp}

-- a TCP segment, snapped or whole
abbrev pub is_segment : Packet → Bool
is_segment (Segment _) = true
is_segment _ = false

-- a TCP segment of which not all bytes were captured
abbrev pub is_snapped : Packet → Bool
is_snapped (Segment segment) = segment.snapped
is_snapped _ = false

abbrev pub is_not_ipv4 : Packet → Bool
is_not_ipv4 (Skipped NotIpv4) = true
is_not_ipv4 _ = false

abbrev pub is_fragment : Packet → Bool
is_fragment (Skipped Fragment) = true
is_fragment _ = false

abbrev pub is_not_tcp : Packet → Bool
is_not_tcp (Skipped NotTcp) = true
is_not_tcp _ = false

abbrev pub is_refused : Packet → Bool
is_refused (Refused _) = true
is_refused _ = false

-- `capture records A segments B snapped C not-ipv4 D fragments E not-tcp F refused G`; B counts the snapped ones too
abbrev pub capture_line : List Record → List Packet → List ℕ
capture_line rows packets = line (field (codes "capture records ") (length rows)
    ++ field (codes " segments ") (count_by is_segment packets)
    ++ field (codes " snapped ") (count_by is_snapped packets)
    ++ field (codes " not-ipv4 ") (count_by is_not_ipv4 packets)
    ++ field (codes " fragments ") (count_by is_fragment packets)
    ++ field (codes " not-tcp ") (count_by is_not_tcp packets)
    ++ field (codes " refused ") (count_by is_refused packets))
