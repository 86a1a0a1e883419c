-- A worked example of a whole flow (RFC 9293, 3.4): sequence numbers come round within the stream, and its first bytes
-- are sent again after its last ones. Payloads are the letters of the capture, and each record is captured at a
-- thousand nanoseconds times its number.
use Rattle.std.specs.Prelude.{◌≡◌, ℕ, ◌-◌, ◌*◌, ◌^◌, Bool, true, false, List, [], ◌∷◌, length, map, slice_get, codes}
use Rattle.std.specs.Prelude.{Some, None}
use Rattle.audit_terms.specs.declared.sides.Side.TheVariants.{Client}
use Rattle.packet_heads.specs.declared.packets.Endpoint.{Endpoint}
use Rattle.packet_heads.specs.declared.packets.Packet.{Packet}
use Rattle.packet_heads.specs.declared.packets.Packet.TheVariants.{Segment as Carried}
use Rattle.packet_heads.specs.declared.packets.Segment.{Segment}
use Rattle.tcp_streams.specs.declared.members.Connection.{Connection}
use Rattle.tcp_streams.specs.declared.flows.Flow.{Flow}
use Rattle.tcp_streams.specs.Bytes.{bytes_of}
use Rattle.tcp_streams.specs.Flow.{IsFlow}
use Rattle.tcp_streams.specs.Members.{initial_of, side_segments}
use Rattle.tcp_streams.specs.Membership.{AreConnections}
use Rattle.tcp_streams.specs.Sequence.{source}

abbrev pub client : Endpoint
client = record { address = 1; port = 40000 }

abbrev pub server : Endpoint
server = record { address = 2; port = 80 }

abbrev pub segment : (number : ℕ) → (from to : Endpoint) → (seq : ℕ) → (syn ack : Bool) → (lo hi : ℕ) → Segment
segment number from to seq syn ack lo hi = record {
  rec = number;
  nanos = number * 1000;
  from = from;
  to = to;
  seq = seq;
  syn = syn;
  ack = ack;
  lo = lo;
  hi = hi;
  snapped = false;
}

-- the client's numbers begin at 2^32 - 4: its first payload byte has 2^32 - 3, and its fourth has 0
abbrev pub wrapped : List Packet
wrapped = map Carried (
    segment 1 client server (2 ^ 32 - 4) true false 0 0
    ∷ segment 2 server client 5000 true true 0 0
    ∷ segment 3 client server 1 false true 0 2
    ∷ segment 4 client server 0 false true 2 5
    ∷ segment 5 client server (2 ^ 32 - 3) false true 5 8
    ∷ [])

-- the payloads of records 3, 4 and 5
abbrev pub letters : List ℕ
letters = codes "EFdXYabc"

-- whatever connections are found, they are one, and whatever its client's flow is, it is this: six bytes, of which
-- record 4 brought the fourth alone, since the next two were there; all arrive with the first, which came last; and
-- there is no gap
abbrev pub WrappedRetransmission : Type 0
WrappedRetransmission =
    (found : List Connection) (connection : Connection) (flow : Flow)
    → AreConnections wrapped found
    → slice_get found 0 ≡ Some connection
    → IsFlow letters (source connection.client_isn (side_segments wrapped connection Client))
    (bytes_of flow) flow.arrivals.items flow.gap
    → (length found ≡ 1) × (initial_of connection Client ≡ Some (2 ^ 32 - 4))
    × (bytes_of flow ≡ codes "abcdEF")
    × (flow.arrivals.items ≡ record { upto = 6; rec = 5; nanos = 5000 } ∷ [])
    × (flow.gap ≡ None)
