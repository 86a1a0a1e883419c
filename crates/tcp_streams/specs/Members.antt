-- The members of a connection: the records of both sides' segments, and what is each side's.
use Rattle.std.specs.Prelude.{ℕ, Bool, not, List, [], ◌∷◌, ◌++◌, filter, Option, Some}
use Rattle.std.specs.Option.{option_to_list}
use Rattle.audit_terms.specs.declared.sides.Side.{Side}
use Rattle.audit_terms.specs.declared.sides.Side.TheVariants.{Client, Server}
use Rattle.packet_heads.specs.declared.packets.Packet.{Packet}
use Rattle.packet_heads.specs.declared.packets.Segment.{Segment}
use Rattle.tcp_streams.specs.declared.members.Connection.{Connection}
use Rattle.tcp_streams.specs.Packets.{segment_of}
use Rattle.tcp_streams.specs.Pair.{is_endpoint}

-- the segments in the records with these numbers
abbrev pub segments_of : List Packet → List ℕ → List Segment
segments_of packets [] = []
segments_of packets (m ∷ rest) = option_to_list (segment_of packets m) ++ segments_of packets rest

-- the opener's segments are the client's, all others are the server's
abbrev pub is_sent_by : Connection → Side → Segment → Bool
is_sent_by connection Client s = is_endpoint s.from connection.client
is_sent_by connection Server s = not (is_endpoint s.from connection.client)

-- the side's segments, in order of record
abbrev pub side_segments : List Packet → Connection → Side → List Segment
side_segments packets connection side =
    filter (is_sent_by connection side) (segments_of packets connection.members.items)

-- the side's initial sequence number, where the capture shows it
abbrev pub initial_of : Connection → Side → Option ℕ
initial_of connection Client = Some connection.client_isn
initial_of connection Server = connection.server_isn
