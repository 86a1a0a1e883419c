-- Laws of the definitions, which the calls of the module `laws` promise.
use Rattle.std.specs.Prelude.{◌≡◌, ℕ, ◌+◌, ◌-◌, ◌%◌, ◌^◌, ◌<◌, ◌≤◌, if◌then◌else◌, List, sum_by, Option, Some}
use Rattle.audit_terms.specs.declared.sides.Side.{Side}
use Rattle.audit_terms.specs.declared.sides.Side.TheVariants.{Client, Server}
use Rattle.packet_heads.specs.declared.packets.Packet.{Packet}
use Rattle.packet_heads.specs.declared.packets.Segment.{Segment}
use Rattle.packet_heads.specs.code.Order.{AreNumberedFrom, PayloadsRise}
use Rattle.tcp_streams.specs.declared.members.Connection.{Connection}
use Rattle.tcp_streams.specs.declared.flows.Arrival.{Arrival}
use Rattle.tcp_streams.specs.declared.flows.Flow.{Flow}
use Rattle.tcp_streams.specs.Flow.{IsFlow, IsFlowFrom}
use Rattle.tcp_streams.specs.code.Orderly.{AreMembers, payload_sum}
use Rattle.tcp_streams.specs.code.SentFlows.{IsFlowSent}
use Rattle.tcp_streams.specs.code.Side.{Sent, segments_among}
use Rattle.tcp_streams.specs.Members.{initial_of, side_segments}
use Rattle.tcp_streams.specs.Membership.{AreConnections, IsConnectionOf, belongings, members}
use Rattle.tcp_streams.specs.Sequence.{Source, brings, payload_length}

-- a source has one flow: its bytes, its arrivals and its gap are determined
abbrev pub FlowIsUnique : Type 0
FlowIsUnique =
    (capture : List ℕ) (sources : ℕ → Option Source) (bytes bytes' : List ℕ) (arrivals arrivals' : List Arrival)
    (gap gap' : Option ℕ)
    → IsFlow capture sources bytes arrivals gap → IsFlow capture sources bytes' arrivals' gap'
    → (bytes ≡ bytes') × (arrivals ≡ arrivals') × (gap ≡ gap')

-- the payloads of a connection's two sides fit in the capture together
abbrev pub SidesFit : Type 0
SidesFit =
    (packets : List Packet) (size : ℕ) (connection : Connection)
    → PayloadsRise 0 size packets → AreMembers 0 packets connection.members.items
    → payload_sum (side_segments packets connection Client) + payload_sum (side_segments packets connection Server)
    ≤ size

-- payload byte k of a segment has the offset seq + k - initial_number - 1 modulo 2 ^ 32, with seq + 1 in place of
-- seq where the segment is a SYN (RFC 9293, 3.4)
abbrev pub ByteHasOffset : Type 0
ByteHasOffset =
    (initial_number : ℕ) (s : Segment) (k : ℕ) → payload_length s ≤ 2 ^ 32 → k < payload_length s
    → brings initial_number s ((s.seq + (if s.syn then 1 else 0) + k + (2 ^ 32 - 1 - initial_number)) % 2 ^ 32)
    ≡ Some (record { rec = s.rec; nanos = s.nanos; index = s.lo + k })

-- the payloads of all connections of a capture fit in it together, and so do their flows
abbrev pub FlowsFit : Type 0
FlowsFit =
    (packets : List Packet) (size : ℕ) (found : List Connection)
    → AreNumberedFrom 1 packets → PayloadsRise 0 size packets → AreConnections packets found
    → sum_by
    (λ (c : Connection).
    payload_sum (side_segments packets c Client) + payload_sum (side_segments packets c Server))
    found
    ≤ size

-- the flow of a side of an opening's connection, which `assemble` gives, is that of the segments that belong to the
-- opening, as they are sent one by one; and the other way round
abbrev pub FlowsAreThoseSent : Type 0
FlowsAreThoseSent =
    (capture : List ℕ) (packets : List Packet) (connection : Connection) (opening : Segment) (sent : List Sent)
    (side : Side) (flow : Flow)
    → AreNumberedFrom 1 packets → IsConnectionOf (belongings packets) opening connection
    → segments_among sent ≡ members opening (belongings packets)
    → (IsFlowFrom (initial_of connection side) capture (side_segments packets connection side) flow
    → IsFlowSent capture opening sent side flow)
    × (IsFlowSent capture opening sent side flow
    → IsFlowFrom (initial_of connection side) capture (side_segments packets connection side) flow)
