-- What holds of the definitions of readings and refusals.
use Rattle.std.specs.Prelude.{◌≡◌, ◌≢◌, ◌<◌, ◌^◌, ℕ, List, ◌++◌, Some, None, length, take}
use Rattle.pcap_records.specs.Reading.{IsReading}
use Rattle.pcap_records.specs.Refusal.{refusal}
use Rattle.pcap_records.specs.declared.pcap_record.Records.{Records}
use Rattle.pcap_records.specs.declared.faults.PcapFault.{PcapFault}
use Rattle.pcap_records.specs.declared.faults.PcapFault.TheVariants.{TooLarge}

-- two readings of one capture have the same link type, the same records and the same cut record
abbrev pub OneReading : Type 0
OneReading = (capture : List ℕ) (a b : Records) → IsReading capture a → IsReading capture b
    → (a.link ≡ b.link) × (a.rows.items ≡ b.rows.items) × (a.cut ≡ b.cut)

-- the front of 2^31 bytes has the refusal of the whole
abbrev pub FrontDecides : Type 0
FrontDecides = (capture : List ℕ) → refusal (take (2 ^ 31) capture) ≡ refusal capture

-- what is not refused is shorter than 2^31 bytes
abbrev pub AllowedIsShort : Type 0
AllowedIsShort = (capture : List ℕ) → refusal capture ≡ None → length capture < 2 ^ 31

-- and the largest size of that kind is not too large
abbrev pub LargestIsTaken : Type 0
LargestIsTaken = (capture : List ℕ) → length capture ≡ 2147483647 → refusal capture ≢ Some TooLarge

-- what a file header is refused for by itself, whatever follows it is refused for
abbrev pub HeaderRefuses : Type 0
HeaderRefuses = (header rest : List ℕ) (e : PcapFault) → length header ≡ 24 → refusal header ≡ Some e
    → refusal (header ++ rest) ≡ Some e
