-- The connections of a capture while its packets come: what its segments, with their payloads, made of what is kept of
-- each. No public clause cites these, but those on a stage.
use Rattle.std.specs.Prelude.{◌≡◌, ℕ, ◌+◌, ◌<◌, ◌^◌, if◌then◌else◌, List, [], ◌∷◌, ◌++◌, length, Some}
use Rattle.std.specs.List.{AllZip}
use Rattle.packet_heads.specs.declared.packets.Packet.{Packet}
use Rattle.packet_heads.specs.declared.packets.Packet.TheVariants.{Segment as Carried, Skipped, Refused}
use Rattle.packet_heads.specs.declared.packets.Segment.{Segment}
use Rattle.packet_heads.specs.code.Handed.{Handed}
use Rattle.tcp_streams.specs.Membership.{belongings, is_opening, members, openings as openings_among}
use Rattle.tcp_streams.specs.Sequence.{payload_length}
use Rattle.tcp_streams.specs.code.Flows.{last_of}
use Rattle.tcp_streams.specs.code.Orderly.{payload_sum}
use Rattle.tcp_streams.specs.code.Past.{opening_at, openings}
use Rattle.tcp_streams.specs.code.Side.{AreSentIn, IsSent, Sent, segments_among}
use Rattle.tcp_streams.specs.code.Table.{IsTableOf, RecordsDescend}
use Rattle.tcp_streams.specs.declared.connection_stage.ConnectionStage.{ConnectionStage}

-- the past grows by a packet with its payload: a segment goes in front, any other packet changes nothing
abbrev pub with_handed : List Sent → Handed → List Sent
with_handed past (Carried s, payload) = (s, payload) ∷ past
with_handed past (Skipped _, payload) = past
with_handed past (Refused _, payload) = past

-- a past, and then what was handed on
abbrev pub sent_after : List Sent → List Handed → List Sent
sent_after past [] = past
sent_after past (one ∷ later) = sent_after (with_handed past one) later

-- the segments that were handed on, with their payloads, the newest first
abbrev pub sent_past : List Handed → List Sent
sent_past handed = sent_after [] handed

-- the segments that belong to the opening, with their payloads, in order
abbrev pub sent_of : Segment → List Sent → List Sent
sent_of o [] = []
sent_of o (one ∷ earlier) =
    if is_opening o (opening_at one.0 (segments_among earlier))
    then sent_of o earlier ++ one ∷ []
    else sent_of o earlier

-- the segment comes next, behind these: of a record above theirs, and all payloads are shorter than 2 ^ 31 together
pub record IsNextOf (past : List Sent) (s : Segment) : Type 0 where
  pub few : length past + 1 < 2 ^ 32
  pub above : RecordsDescend s.rec (segments_among past)
  pub room : payload_sum (segments_among past) + payload_length s < 2 ^ 31

-- the same of a packet with its payload, if it is a segment
abbrev pub IsNextPacketOf : List Sent → Packet → List ℕ → Type 0
IsNextPacketOf past (Carried s) payload = IsSent s payload × IsNextOf past s
IsNextPacketOf past _ payload = Unit {0}

module _ {V : Type 0} (after : Segment → List Sent → ℕ → V → Type 0) where
  -- all segments of the past that belong to the opening were handed on to what is kept of it
  abbrev pub IsKept : List Sent → (opening : Segment) → V → Type 0
  IsKept past o visitor = after o (sent_of o past) (last_of 0 (sent_of o past)) visitor

  -- the table shows this past, and all its segments were handed on, each to what is kept of its connection
  pub record AreOpened (past : List Sent) (stage : ConnectionStage V) : Type 0 where
    pub table : IsTableOf (segments_among past) stage.table
    pub kept : AllZip (IsKept past) (openings (segments_among past)) stage.opened.items

  -- a stage that was handed these packets
  pub record HasOpened (handed : List Handed) (stage : ConnectionStage V) : Type 0 where
    pub opened : AreOpened (sent_past handed) stage
    pub above : RecordsDescend (length handed + 1) (segments_among (sent_past handed))

  -- of a capture with these packets, what is kept of an opening was handed exactly the segments that belong to it, in
  -- order, with their payloads as they stand in the capture
  pub record IsVisited (capture : List ℕ) (packets : List Packet) (opening : Segment) (visitor : V) : Type 0 where
    pub sent : List Sent
    pub are : segments_among sent ≡ members opening (belongings packets)
    pub stand : AreSentIn (Some capture) sent
    pub visited : after opening sent (last_of 0 sent) visitor

  -- and so was what is kept of each opening
  abbrev pub AreVisited : List ℕ → List Packet → List V → Type 0
  AreVisited capture packets visitors =
      AllZip (IsVisited capture packets) (openings_among (belongings packets)) visitors
