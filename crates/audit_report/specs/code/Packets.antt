-- The lines on a capture itself, by its packets, of which there is one for each record.
use Rattle.std.specs.Prelude.{◌≡◌, ℕ, List, Option, length, ◌++◌, codes}
use Rattle.audit_report.specs.Line.{field, line}
use Rattle.audit_report.specs.RecordLines.{record_lines_from}
use Rattle.audit_report.specs.code.Tally.{IsTallyOf}
use Rattle.audit_report.specs.declared.capture.CaptureLines.{CaptureLines}
use Rattle.audit_report.specs.declared.tally.Tally.{Tally}
use Rattle.packet_heads.specs.declared.packets.Packet.{Packet}
use Rattle.pcap_records.specs.declared.pcap_record.Records.{Records}

-- records of which there is one for each packet, and this one is cut
pub record AreRecordsOf (packets : List Packet) (cut : Option ℕ) (records : Records) : Type 0 where
  pub count : length records.rows.items ≡ length packets
  pub cut_is : records.cut ≡ cut

-- ` segments B snapped C not-ipv4 D fragments E not-tcp F refused G`
abbrev pub tally_counts : Tally → List ℕ
tally_counts tally = field (codes " segments ") tally.segments
    ++ field (codes " snapped ") tally.snapped
    ++ field (codes " not-ipv4 ") tally.not_ipv4
    ++ field (codes " fragments ") tally.fragments
    ++ field (codes " not-tcp ") tally.not_tcp
    ++ field (codes " refused ") tally.refused

-- the capture line of so many records
abbrev pub counts_line : ℕ → Tally → List ℕ
counts_line count tally = line (field (codes "capture records ") count
    ++ field (codes " segments ") tally.segments
    ++ field (codes " snapped ") tally.snapped
    ++ field (codes " not-ipv4 ") tally.not_ipv4
    ++ field (codes " fragments ") tally.fragments
    ++ field (codes " not-tcp ") tally.not_tcp
    ++ field (codes " refused ") tally.refused)

-- these packets were taken, one for each record from the first on
pub record HasCounted (packets : List Packet) (lines : CaptureLines) : Type 0 where
  pub count : lines.count ≡ length packets
  pub tally : IsTallyOf packets lines.tally
  pub records : lines.records.items ≡ record_lines_from 1 packets
