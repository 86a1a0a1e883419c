-- What a text tells, and how it is written.
use Rattle.std.specs.Prelude.{◌≡◌, ℕ, Bool, List, ◌++◌, map, take, Option, Result, Ok, Err}
use Rattle.audit_report.specs.CaptureLines.{capture_text}
use Rattle.audit_report.specs.Section.{sections_text}
use Rattle.audit_report.specs.code.Packets.{AreRecordsOf}
use Rattle.audit_report.specs.declared.audited.Audited.{Audited}
use Rattle.audit_report.specs.declared.headings.SectionHeading.{SectionHeading}
use Rattle.packet_heads.specs.declared.packets.Packet.{Packet}
use Rattle.pcap_records.specs.declared.pcap_record.Records.{Records}
use Rattle.tcp_streams.specs.declared.members.Connection.{Connection}
use Rattle.tcp_streams.specs.declared.members.Stray.{Stray}
use Rattle.h2audit.specs.Audited.{verdict_of}
use Rattle.h2audit.specs.code.Headings.{heading_of}
use Rattle.report_pages.specs.code.Told.{AreToldOf}
use Rattle.report_pages.specs.declared.told.Told.{Told}
use Rattle.input_output.specs.Account.{HasWriteFailed, IsFlushed, written}
use Rattle.input_output.specs.declared.report_writer.ReportWriter.{ReportWriter}
use Rattle.h2audit.specs.declared.fault.AuditFault.{AuditFault}
use Rattle.h2audit.specs.declared.fault.AuditFault.TheVariants as fault
use Rattle.h2audit.specs.declared.verdict.Verdict.{Verdict}

-- the text, one flush, and this verdict; or a failed write after a prefix of the text
abbrev pub IsWritten : {W : Type 0} → (text : List ℕ) → Verdict → ReportWriter W → Result Verdict AuditFault → Type 0
IsWritten text verdict writer (Ok judged) = (judged ≡ verdict) × (written writer ≡ text) × IsFlushed writer
IsWritten text verdict writer (Err fault.Write) = HasWriteFailed writer × ((n : ℕ) × (written writer ≡ take n text))
IsWritten text verdict writer (Err _) = ⊥

-- so a report was written, if there is one; else nothing changed but the answer
abbrev pub IsAnswered : {W : Type 0} → Result (List ℕ × Verdict) AuditFault → (old new : ReportWriter W)
    → Result Verdict AuditFault → Type 0
IsAnswered (Ok report) old new answer = IsWritten report.0 report.1 new answer
IsAnswered (Err e) old new answer = (new ≡ old) × (answer ≡ Err e)

-- the first lines of a report, of the packets, the cut record and the strays of a capture
abbrev pub AreLinesOf : List Packet → (cut : Option ℕ) → List Stray → (lines : List ℕ) → Type 0
AreLinesOf packets cut strays lines =
    (records : Records) → AreRecordsOf packets cut records → lines ≡ capture_text records packets strays

-- behind these lines the text has what is told of connections under these headings, and this is the verdict on them
abbrev pub IsToldBehind : (frames_shown : Bool) → (lines : List ℕ) → List SectionHeading → List Told → (text : List ℕ)
    → Verdict → Type 0
IsToldBehind frames_shown lines headings told text verdict =
    (connections : List Connection) → (audited : List Audited) → headings ≡ map heading_of connections
    → AreToldOf told audited
    → (text ≡ lines ++ sections_text frames_shown 1 connections audited) × (verdict ≡ verdict_of audited)
