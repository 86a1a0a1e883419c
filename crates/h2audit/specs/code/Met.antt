-- Captures whose packets are met as they come, and connections whose segments are.
use Rattle.std.specs.List.{AllZip}
use Rattle.std.specs.Prelude.{◌≡◌, ℕ, Bool, List, [], ◌∷◌, map, Option, None, Some, IfSome, Result, Ok, Err}
use Rattle.audit_report.specs.code.Packets.{HasCounted}
use Rattle.audit_report.specs.declared.headings.SectionHeading.{SectionHeading}
use Rattle.packet_heads.specs.code.Handed.{Handed, packets_among}
use Rattle.packet_heads.specs.code.Walk.{HasMet}
use Rattle.packet_heads.specs.declared.packets.Packet.{Packet}
use Rattle.packet_heads.specs.declared.packets.Segment.{Segment}
use Rattle.pcap_records.specs.Refusal.{refusal}
use Rattle.pcap_records.specs.declared.faults.PcapFault.{PcapFault}
use Rattle.pcap_records.specs.declared.faults.PcapFault.TheVariants.{OutOfMemory}
use Rattle.report_pages.specs.declared.told.Told.{Told}
use Rattle.tcp_streams.specs.Membership.{IsConnectionOf, belongings, openings}
use Rattle.tcp_streams.specs.code.Opened.{HasOpened}
use Rattle.tcp_streams.specs.code.Side.{IsSent, Sent}
use Rattle.tcp_streams.specs.code.Taken.{IsNextSent}
use Rattle.tcp_streams.specs.declared.flows.Flow.{Flow}
use Rattle.tcp_streams.specs.declared.members.Connection.{Connection}
use Rattle.h2audit.specs.code.Flows.{IsToldFlows, IsToldOfFlows}
use Rattle.h2audit.specs.code.KeptFrames.{frames_of}
use Rattle.h2audit.specs.declared.met_captures.MetCapture.{MetCapture}
use Rattle.h2audit.specs.declared.met_connections.Met.{Met}
use Rattle.h2audit.specs.declared.met_connections.Met.TheVariants.{Begun, Waits}
use Rattle.h2audit.specs.declared.met_connections.MetConnection.{MetConnection}

-- a first segment, without payload
pub record IsFirst (s : Segment) : Type 0 where
  pub sent : IsSent s []
  pub next : IsNextSent [] 0 s

-- the only segment, if there is one, and its record
abbrev pub first_sent : Option Segment → List Sent
first_sent None = []
first_sent (Some s) = (s, []) ∷ []

abbrev pub last_first : Option Segment → ℕ
last_first None = 0
last_first (Some s) = s.rec

-- of these segments no frame can have been met: there is one at most, without payload
pub record IsWaiting (sent : List Sent) (last : ℕ) (first : Option Segment) : Type 0 where
  pub are : sent ≡ first_sent first
  pub record_is : last ≡ last_first first
  pub is_first : IfSome first IsFirst

module _ {V : Type 0} (after : Segment → List Sent → ℕ → V → Type 0) where
  -- these segments came, none of a record above `last`, and the visitor met them
  abbrev pub AreMet : (opening : Segment) → List Sent → (last : ℕ) → Met V → Type 0
  AreMet opening sent last (Waits first) = IsWaiting sent last first
  AreMet opening sent last (Begun visitor) = after opening sent last visitor.value

  -- so it is of the connection that a SYN opened
  pub record HasMetSegments (opening : Segment) (sent : List Sent) (last : ℕ) (connection : MetConnection V)
      : Type 0 where
    pub opened : connection.opening ≡ opening
    pub met : AreMet opening sent last connection.met

  -- and of each connection of these packets, and all packets were counted
  pub record HasMetPackets (handed : List Handed) (met : MetCapture V) : Type 0 where
    pub lines : HasCounted (packets_among handed) met.lines
    pub connections : HasOpened HasMetSegments handed met.connections

  -- how a walk over these bytes ended, by which their packets were met: the capture is not refused, and its last record
  -- cut or whole; or it is refused; or it is not, and memory was wanting
  abbrev pub IsMetEnd : List ℕ → Result (MetCapture V × Option ℕ) PcapFault → Type 0
  IsMetEnd capture (Ok ended) = (refusal capture ≡ None) × HasMet HasMetPackets capture ended.0 ended.1
  IsMetEnd capture (Err OutOfMemory) = refusal capture ≡ None
  IsMetEnd capture (Err e) = refusal capture ≡ Some e

-- what is told of the connection that a SYN opened is told of its flows
pub record IsToldOfOpening
    (frames_shown : Bool) (capture : List ℕ) (packets : List Packet) (opening : Segment) (told : Told) : Type 0 where
  pub flows : (connection : Connection) → IsConnectionOf (belongings packets) opening connection
      → IsToldFlows frames_shown capture packets connection told

-- all is told of two flows: no frame is left to be audited
pub record IsToldWhole (frames_shown : Bool) (client server : Flow) (told : Told) : Type 0 where
  pub flows : IsToldOfFlows frames_shown client server told
  pub whole : frames_of told.outcome ≡ []

-- so it is of the connection that a SYN opened
pub record IsWholeOfOpening
    (frames_shown : Bool) (capture : List ℕ) (packets : List Packet) (opening : Segment) (told : Told) : Type 0 where
  pub told_of : IsToldOfOpening frames_shown capture packets opening told
  pub whole : frames_of told.outcome ≡ []

-- what the first line of its section says of it
abbrev pub heading_by : Segment → SectionHeading
heading_by opening = record { client = opening.from; server = opening.to; rec = opening.rec }

-- this was made of each opening, in order, with its heading
pub record AreMadeOfOpenings {M : Type 0} (of : List ℕ → List Packet → Segment → M → Type 0)
    (capture : List ℕ) (packets : List Packet) (headings : List SectionHeading) (made : List M) : Type 0 where
  pub headed : headings ≡ map heading_by (openings (belongings packets))
  pub each : AllZip (of capture packets) (openings (belongings packets)) made
