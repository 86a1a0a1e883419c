-- What is given where a flow is assembled, and what that leaves. No public clause cites these.
use Rattle.std.specs.Prelude.{ℕ, ◌^◌, ◌<◌, ◌≤◌, List, length, IsTrue}
use Rattle.packet_heads.specs.code.Order.{AreNumberedFrom, PayloadsRise, TimesFit}
use Rattle.packet_heads.specs.declared.packets.Segment.{Segment}
use Rattle.tcp_streams.specs.declared.started_side.StartedSide.{StartedSide}
use Rattle.tcp_streams.specs.declared.flows.Flow.{Flow}
use Rattle.tcp_streams.specs.code.Orderly.{AreMembers, IsOrderly, payload_sum}
use Rattle.tcp_streams.specs.Bytes.{bytes_of}
use Rattle.tcp_streams.specs.Flow.{IsFlow}
use Rattle.tcp_streams.specs.Members.{side_segments}
use Rattle.tcp_streams.specs.Sequence.{source}

-- the packets are those of a short capture, and the side's connection is theirs
pub record IsOfCapture (capture : List ℕ) (of : StartedSide) : Type 0 where
  pub size : length capture < 2 ^ 31
  pub numbered : AreNumberedFrom 1 of.packets.now
  pub payloads : PayloadsRise 0 (length capture) of.packets.now
  pub times : TimesFit of.packets.now
  pub members : AreMembers 0 of.packets.now of.connection.now.members.items

-- the segments that the side sent
abbrev pub segments_by : StartedSide → List Segment
segments_by of = side_segments of.packets.now of.connection.now of.side

-- the flow of the side
pub record IsAssembled (capture : List ℕ) (of : StartedSide) (flow : Flow) : Type 0 where
  pub started : IsTrue flow.started
  pub is_flow : IsFlow capture (source of.initial_number (segments_by of)) (bytes_of flow) flow.arrivals.items flow.gap
  pub within : length (bytes_of flow) ≤ payload_sum (segments_by of)
  pub orderly : IsOrderly flow
