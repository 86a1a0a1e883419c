-- What a report calls a packet that cannot be read.
use Rattle.std.specs.Prelude.{ℕ, List, codes}
use Rattle.packet_heads.specs.declared.packets.Refusal.{Refusal}
use Rattle.packet_heads.specs.declared.packets.Refusal.TheVariants.{ShortEthernet, ShortIpv4, BadVersion}
use Rattle.packet_heads.specs.declared.packets.Refusal.TheVariants.{BadHeaderLength, BadTotalLength, PastEnd, ShortTcp}
use Rattle.packet_heads.specs.declared.packets.Refusal.TheVariants.{BadDataOffset}

-- the name of a refusal, in bytes
abbrev pub refusal_name : Refusal → List ℕ
refusal_name ShortEthernet = codes "short-ethernet"
refusal_name ShortIpv4 = codes "short-ipv4"
refusal_name BadVersion = codes "bad-version"
refusal_name BadHeaderLength = codes "bad-header-length"
refusal_name BadTotalLength = codes "bad-total-length"
refusal_name PastEnd = codes "past-end"
refusal_name ShortTcp = codes "short-tcp"
refusal_name BadDataOffset = codes "bad-data-offset"
