-- The report of a capture.
use Rattle.std.specs.Prelude.{Bool, List, ◌++◌, ℕ}
use Rattle.audit_report.specs.CaptureLines.{capture_text}
use Rattle.audit_report.specs.Section.{sections_text}
use Rattle.audit_report.specs.declared.audited.Audited.{Audited}
use Rattle.packet_heads.specs.declared.packets.Packet.{Packet}
use Rattle.pcap_records.specs.declared.pcap_record.Records.{Records}
use Rattle.tcp_streams.specs.declared.members.Connection.{Connection}
use Rattle.tcp_streams.specs.declared.members.Stray.{Stray}

-- what the capture holds, and then its connections in order of opening, numbered from 1
abbrev pub report_text : Records → List Packet → List Stray → List Connection → List Audited → (frames_shown : Bool)
    → List ℕ
report_text records packets strays connections audited frames_shown =
    capture_text records packets strays ++ sections_text frames_shown 1 connections audited
