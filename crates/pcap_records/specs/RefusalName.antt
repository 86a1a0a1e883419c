-- What programs call a capture that they refuse.
use Rattle.std.specs.Prelude.{ℕ, List, codes}
use Rattle.pcap_records.specs.declared.faults.PcapFault.{PcapFault}
use Rattle.pcap_records.specs.declared.faults.PcapFault.TheVariants.{ShortHeader, BadMagic, BadVersion, LinkType}
use Rattle.pcap_records.specs.declared.faults.PcapFault.TheVariants.{TooLarge, OutOfMemory}

-- the name of a refusal, in bytes
abbrev pub refusal_name : PcapFault → List ℕ
refusal_name ShortHeader = codes "short-header"
refusal_name BadMagic = codes "bad-magic"
refusal_name BadVersion = codes "bad-version"
refusal_name LinkType = codes "link-type"
refusal_name TooLarge = codes "too-large"
refusal_name OutOfMemory = codes "out-of-memory"
