-- The packets of a front of a capture, behind which more bytes may come, and those of all of it.
use Rattle.std.specs.Prelude.{◌≡◌, ℕ, ◌^◌, ◌<◌, List, Option, length}
use Rattle.pcap_records.specs.Reading.{IsReading}
use Rattle.pcap_records.specs.code.Walk.{Captured, HasFed}
use Rattle.pcap_records.specs.declared.pcap_record.Records.{Records}
use Rattle.packet_heads.specs.declared.packets.Packet.{Packet}
use Rattle.packet_heads.specs.declared.stage.PacketStage.{PacketStage}
use Rattle.packet_heads.specs.declared.walk.PacketWalk.{PacketWalk}
use Rattle.packet_heads.specs.Decision.{packet_decisions}
use Rattle.packet_heads.specs.code.Handed.{AreHanded, ArePayloadsOf, Handed, packets_among}
use Rattle.packet_heads.specs.code.Order.{AreNumberedFrom, PayloadsRise, TimesFit}

-- these are the decisions on all records of a capture, whose cut record is this one
pub record AreDecisionsOn (capture : List ℕ) (packets : List Packet) (end : Option ℕ) : Type 0 where
  pub records : Records
  pub reading : IsReading capture records
  pub cut : records.cut ≡ end
  pub exact : packets ≡ packet_decisions records.link records.rows.items capture

-- what those who go on from the packets of a capture of this size have of them
pub record AreInOrder (size : ℕ) (packets : List Packet) : Type 0 where
  pub few : length packets < 2 ^ 32
  pub numbered : AreNumberedFrom 1 packets
  pub payloads : PayloadsRise 0 size packets
  pub times : TimesFit packets

module _ {V : Type 0} (after : List Handed → V → Type 0) where
  -- a stage that was handed these records of a capture of this link type, and handed on their packets
  pub record HasDecoded (link : ℕ) (seen : List Captured) (stage : PacketStage V) : Type 0 where
    pub handed : List Handed
    pub count : stage.count ≡ length seen
    pub are : AreHanded link 1 seen handed
    pub visited : after handed stage.visitor

  -- a walk that was fed the front of a capture: its visitor was handed the packets of all records of it that are whole
  abbrev pub HasMade : List ℕ → PacketWalk V → Type 0
  HasMade front walk = HasFed HasDecoded front walk.records

  -- a visitor that was handed all packets of a capture, whose cut record is this one
  pub record HasMet (capture : List ℕ) (visitor : V) (cut : Option ℕ) : Type 0 where
    pub handed : List Handed
    pub visited : after handed visitor
    pub decided : AreDecisionsOn capture (packets_among handed) cut
    pub payloads : ArePayloadsOf capture handed
    pub order : AreInOrder (length capture) (packets_among handed)
