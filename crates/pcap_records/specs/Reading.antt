-- What a capture that is not refused holds.
use Rattle.std.specs.Prelude.{◌≡◌, ℕ, ◌+◌, ◌==◌, if◌then◌else◌, Option, Some, None, List, length, drop}
use Rattle.pcap_records.specs.FileHeader.{number_of, header_of, format_of, link_of}
use Rattle.pcap_records.specs.Record.{AreRecords}
use Rattle.pcap_records.specs.declared.format.Format.{Format}
use Rattle.pcap_records.specs.declared.pcap_record.Record.{Record}
use Rattle.pcap_records.specs.declared.pcap_record.Records.{Records}

-- the number of the record that the end of the capture cuts off, where bytes are left after these ones
abbrev pub cut_after : List Record → List ℕ → Option ℕ
cut_after rows rest = if length rest == 0 then None else Some (length rows + 1)

-- what was found is all that the capture holds, with the order of bytes and the unit of fractions that its magic says
pub record IsReading (capture : List ℕ) (found : Records) : Type 0 where
  pub format : Format
  pub rest : List ℕ
  pub magic : format_of (header_of capture) ≡ Some format
  pub link : found.link ≡ link_of (number_of format.endian) (header_of capture)
  pub rows : AreRecords (number_of format.endian) format.unit 24 (drop 24 capture) found.rows.items rest
  pub cut : found.cut ≡ cut_after found.rows.items rest
