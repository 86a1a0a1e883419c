-- What the report says of the capture itself, before its connections.
use Rattle.std.specs.Prelude.{ℕ, List, ◌++◌}
use Rattle.audit_report.specs.CaptureLine.{capture_line}
use Rattle.audit_report.specs.RecordLines.{record_lines_from}
use Rattle.audit_report.specs.CutRecordLine.{cut_record_line}
use Rattle.audit_report.specs.UnopenedLines.{unopened_lines}
use Rattle.pcap_records.specs.declared.pcap_record.Records.{Records}
use Rattle.packet_heads.specs.declared.packets.Packet.{Packet}
use Rattle.tcp_streams.specs.declared.members.Stray.{Stray}

-- the capture line, the lines of fragments and refused packets by records, which are numbered from 1, the cut record's
-- line, the lines of unopened pairs
abbrev pub capture_text : Records → List Packet → List Stray → List ℕ
capture_text records packets strays = capture_line records.rows.items packets
    ++ record_lines_from 1 packets
    ++ cut_record_line records.cut
    ++ unopened_lines strays
