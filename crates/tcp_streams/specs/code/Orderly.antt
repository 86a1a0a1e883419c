-- What a caller can rely on beside connections and flows themselves. No definition of a report cites these.
use Rattle.std.specs.Prelude.{ℕ, ◌+◌, ◌<◌, ◌^◌, List, [], ◌∷◌, All, length, sum_by, IsSome}
use Rattle.packet_heads.specs.declared.packets.Packet.{Packet}
use Rattle.packet_heads.specs.declared.packets.Segment.{Segment}
use Rattle.tcp_streams.specs.declared.flows.Arrival.{Arrival}
use Rattle.tcp_streams.specs.declared.flows.Flow.{Flow}
use Rattle.tcp_streams.specs.Arrivals.{Rises}
use Rattle.tcp_streams.specs.Bytes.{bytes_of}
use Rattle.tcp_streams.specs.Packets.{segment_of}
use Rattle.tcp_streams.specs.Sequence.{payload_length}

-- times of a capture
abbrev pub AreTimely : List Arrival → Type 0
AreTimely arrivals = All (λ (a : Arrival). a.nanos < 2 ^ 63) arrivals

-- what a reader of a flow can rely on, started or not: offsets and records count up from 0, to its length
pub record IsOrderly (flow : Flow) : Type 0 where
  pub short : length (bytes_of flow) < 2 ^ 31
  pub rises : Rises 0 0 flow.arrivals.items (length (bytes_of flow))
  pub timely : AreTimely flow.arrivals.items

-- both flows of one connection, as readers of their frames want them
pub record AreFlowsOfOne (client server : Flow) : Type 0 where
  pub client_orderly : IsOrderly client
  pub server_orderly : IsOrderly server
  pub together : length (bytes_of client) + length (bytes_of server) < 2 ^ 31

-- the numbers rise from above `low`, and each names a record with a segment
abbrev pub AreMembers : ℕ → List Packet → List ℕ → Type 0
AreMembers low packets [] = Unit {0}
AreMembers low packets (m ∷ rest) = (low < m) × IsSome (segment_of packets m) × AreMembers m packets rest

-- how many payload bytes the segments hold together
abbrev pub payload_sum : List Segment → ℕ
payload_sum segments = sum_by payload_length segments
