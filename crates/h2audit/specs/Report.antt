-- The report of a capture.
use Rattle.std.specs.Prelude.{◌≡◌, ℕ, Bool, List, None, Some}
use Rattle.pcap_records.specs.Refusal.{refusal}
use Rattle.pcap_records.specs.Reading.{IsReading}
use Rattle.pcap_records.specs.declared.pcap_record.Records.{Records}
use Rattle.packet_heads.specs.Decision.{packet_decisions}
use Rattle.packet_heads.specs.declared.packets.Packet.{Packet}
use Rattle.tcp_streams.specs.declared.members.Connection.{Connection}
use Rattle.tcp_streams.specs.Membership.{AreConnections, strays_of}
use Rattle.audit_report.specs.declared.audited.Audited.{Audited}
use Rattle.audit_report.specs.ReportText.{report_text}
use Rattle.h2audit.specs.Audited.{AreAudited, verdict_of}
use Rattle.h2audit.specs.declared.fault.AuditFault.{AuditFault}
use Rattle.h2audit.specs.declared.fault.AuditFault.TheVariants as fault
use Rattle.h2audit.specs.declared.verdict.Verdict.{Verdict}

-- the packets of a capture's records
abbrev pub packets_of : List ℕ → Records → List Packet
packets_of bytes found = packet_decisions found.link found.rows.items bytes

-- this text is the report of a capture whose records are these, and this is its verdict
pub record IsReportOn (bytes : List ℕ) (found : Records) (shown : Bool) (text : List ℕ) (verdict : Verdict)
    : Type 0 where
  pub opened : List Connection
  pub audited : List Audited
  pub connections : AreConnections (packets_of bytes found) opened
  pub audits : AreAudited shown bytes (packets_of bytes found) opened audited
  pub spelled : text ≡ report_text found (packets_of bytes found) (strays_of (packets_of bytes found))
      opened audited shown
  pub judged : verdict ≡ verdict_of audited

-- this text is the report of the capture with these bytes, and this is its verdict
pub record IsReport (bytes : List ℕ) (shown : Bool) (text : List ℕ) (verdict : Verdict) : Type 0 where
  pub found : Records
  pub taken : refusal bytes ≡ None
  pub reading : IsReading bytes found
  pub report : IsReportOn bytes found shown text verdict

-- why these bytes have no report: they are refused, by this name; or they are not, and memory was wanting
abbrev pub IsNoReport : List ℕ → AuditFault → Type 0
IsNoReport bytes (fault.Pcap e) = refusal bytes ≡ Some e
IsNoReport bytes fault.OutOfMemory = refusal bytes ≡ None
IsNoReport bytes _ = ⊥
