-- What one packet keeps of its record, from which the order of all packets is proved.
use Rattle.std.specs.Prelude.{◌≡◌, ℕ, ◌+◌, ◌≤◌, List, [], ◌∷◌}
use Rattle.pcap_records.specs.declared.pcap_record.Record.{Record}
use Rattle.packet_heads.specs.declared.packets.Packet.{Packet}
use Rattle.packet_heads.specs.declared.packets.Packet.TheVariants.{Segment}
use Rattle.packet_heads.specs.Decision.{packet_decision}

-- the packets of records, the first of which has this number
abbrev pub decisions_from : ℕ → ℕ → List Record → List ℕ → List Packet
decisions_from link number [] capture = []
decisions_from link number (row ∷ rows) capture =
    packet_decision link number row capture ∷ decisions_from link (number + 1) rows capture

-- a segment has the number and the time of its record, and its payload lies in the captured bytes
abbrev pub StandsIn : ℕ → Record → Packet → Type 0
StandsIn number row (Segment s) =
    (s.rec ≡ number) × (s.nanos ≡ row.nanos) × (row.start ≤ s.lo) × (s.lo ≤ s.hi) × (s.hi ≤ row.start + row.length)
StandsIn number row _ = Unit {0}

-- the packets of these records, one for each, where the first has this number
abbrev pub AllStand : ℕ → List Record → List Packet → Type 0
AllStand number [] [] = Unit {0}
AllStand number (row ∷ rows) (p ∷ packets) = StandsIn number row p × AllStand (number + 1) rows packets
AllStand number _ _ = ⊥

-- these are the decisions on these records, of which the first has this number, and each stands in its record
pub record AreDecided (link number : ℕ) (rows : List Record) (capture : List ℕ) (packets : List Packet) : Type 0 where
  pub exact : packets ≡ decisions_from link number rows capture
  pub stand : AllStand number rows packets

-- skipped or refused
abbrev pub IsPassedOver : Packet → Type 0
IsPassedOver (Segment s) = ⊥
IsPassedOver _ = Unit {0}
