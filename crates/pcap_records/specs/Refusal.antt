-- When a capture is refused, and why.
use Rattle.std.specs.Prelude.{ℕ, ◌-◌, ◌^◌, if◌then◌else◌, not, nat_lt, Option, Some, None, List, length}
use Rattle.pcap_records.specs.FileHeader.{ByteOrder, number_of, header_of, format_of, is_version, link_of}
use Rattle.pcap_records.specs.LinkType.{is_read}
use Rattle.pcap_records.specs.declared.format.Format.{Format}
use Rattle.pcap_records.specs.declared.faults.PcapFault.{PcapFault}
use Rattle.pcap_records.specs.declared.faults.PcapFault.TheVariants.{ShortHeader, BadMagic, BadVersion, LinkType}
use Rattle.pcap_records.specs.declared.faults.PcapFault.TheVariants.{TooLarge}

-- what refuses a capture of this size that has this header, once the order of bytes is known
abbrev pub refusal_in : ByteOrder → List ℕ → ℕ → Option PcapFault
refusal_in number header size =
    if not (is_version number header) then Some BadVersion else
    if not (is_read (link_of number header)) then Some LinkType else
    if nat_lt (2 ^ 31 - 1) size then Some TooLarge else
    None

-- the same by what the magic told
abbrev pub refusal_by : Option Format → List ℕ → ℕ → Option PcapFault
refusal_by None header size = Some BadMagic
refusal_by (Some format) header size = refusal_in (number_of format.endian) header size

-- the first refusal that applies to a capture of this size that begins with this header, as far as it has one
abbrev pub refusal_of : List ℕ → ℕ → Option PcapFault
refusal_of header size =
    if nat_lt size 24 then Some ShortHeader
    else refusal_by (format_of header) header size

-- the first refusal that applies, or none where the capture is read
abbrev pub refusal : List ℕ → Option PcapFault
refusal capture = refusal_of (header_of capture) (length capture)
