-- Connections and strays over the past: the segments of a capture, the newest first, so that each definition looks back
-- from a segment to the rest of the list. No public clause cites these.
use Rattle.std.specs.Prelude.{ℕ, Bool, false, ◌&&◌, ◌==◌, not, if◌then◌else◌, List, [], ◌∷◌, map, filter, find, length}
use Rattle.std.specs.Prelude.{Option, None, Some, is_none, option_map}
use Rattle.std.specs.List.{list_any}
use Rattle.packet_heads.specs.declared.packets.Endpoint.{Endpoint}
use Rattle.packet_heads.specs.declared.packets.Packet.{Packet}
use Rattle.packet_heads.specs.declared.packets.Packet.TheVariants.{Segment as Carried, Skipped, Refused}
use Rattle.packet_heads.specs.declared.packets.Segment.{Segment}
use Rattle.tcp_streams.specs.declared.members.Connection.{Connection}
use Rattle.tcp_streams.specs.declared.members.Stray.{Stray}
use Rattle.tcp_streams.specs.declared.pair.Pair.{Pair}
use Rattle.tcp_streams.specs.Membership.{is_request, is_opening, is_answer, with_if}
use Rattle.tcp_streams.specs.Pair.{is_endpoint}
use Rattle.tcp_streams.specs.code.Pairs.{is_of, pair_of}

-- the past grows by a packet: a segment goes in front, any other packet changes nothing
abbrev pub with_packet : List Segment → Packet → List Segment
with_packet past (Carried s) = s ∷ past
with_packet past (Skipped _) = past
with_packet past (Refused _) = past

-- a past, and then the packets
abbrev pub past_after : List Segment → List Packet → List Segment
past_after past [] = past
past_after past (p ∷ rest) = past_after (with_packet past p) rest

-- the segments of a capture, the newest first
abbrev pub past_of : List Packet → List Segment
past_of packets = past_after [] packets

-- the segment comes from this endpoint, with this sequence number
abbrev pub is_again : Segment → Endpoint → ℕ → Bool
is_again s from seq = is_endpoint s.from from && (s.seq == seq)

-- a server's SYN with ACK (RFC 9293, 3.5), to this client
abbrev pub answers : Endpoint → Segment → Bool
answers client s = not (is_endpoint s.from client) && (s.syn && s.ack)

-- the segment says again what the opening said: the same sender, the same sequence number
abbrev pub repeats : Segment → Option Segment → Bool
repeats s None = false
repeats s (Some o) = is_again s o.from o.seq

-- the last opening of the pair in the past: a SYN without ACK that does not repeat the opening before it
abbrev pub last_opening : Pair → List Segment → Option Segment
last_opening p [] = None
last_opening p (t ∷ earlier) =
    if is_of p t && (is_request t && not (repeats t (last_opening (pair_of t) earlier)))
    then Some t
    else last_opening p earlier

-- a SYN without ACK opens a connection, unless it repeats the last opening of its pair
abbrev pub opens : Segment → List Segment → Bool
opens s earlier = is_request s && not (repeats s (last_opening (pair_of s) earlier))

-- the last opening of the segment's pair, at or before the segment
abbrev pub opening_at : Segment → List Segment → Option Segment
opening_at s earlier = if opens s earlier then Some s else last_opening (pair_of s) earlier

-- the openings, in order
abbrev pub openings : List Segment → List Segment
openings [] = []
openings (s ∷ earlier) = with_if (opens s earlier) (openings earlier) s

-- the segments that belong to the opening, in order: it is the last of their pair at or before them
abbrev pub members : Segment → List Segment → List Segment
members o [] = []
members o (s ∷ earlier) = with_if (is_opening o (opening_at s earlier)) (members o earlier) s

-- the segments with no opening of their pair at or before them, in order
abbrev pub strays : List Segment → List Segment
strays [] = []
strays (s ∷ earlier) = with_if (is_none (opening_at s earlier)) (strays earlier) s

-- the first stray of each pair, in order
abbrev pub first_strays : List Segment → List Segment
first_strays [] = []
first_strays (s ∷ earlier) =
    with_if
    (is_none (opening_at s earlier) && not (list_any (is_of (pair_of s)) (strays earlier)))
    (first_strays earlier) s

-- a connection as clauses see it: its members are a list
pub record Membership : Type 0 where
  pub client : Endpoint
  pub server : Endpoint
  pub rec : ℕ
  pub client_isn : ℕ
  pub server_isn : Option ℕ
  pub members : List ℕ

abbrev pub membership : Connection → Membership
membership c = record {
  client = c.client;
  server = c.server;
  rec = c.rec;
  client_isn = c.client_isn;
  server_isn = c.server_isn;
  members = c.members.items;
}

-- the connection of an opening with these members: the opener is the client, and its sequence number the client's
-- initial number; the server's is that of the first SYN with ACK which is not the opener's (RFC 9293, 3.4)
abbrev pub connection_with : Segment → List Segment → Membership
connection_with o joined = record {
  client = o.from;
  server = o.to;
  rec = o.rec;
  client_isn = o.seq;
  server_isn = option_map (λ (s : Segment). s.seq) (find (is_answer o) joined);
  members = map (λ (s : Segment). s.rec) joined;
}

abbrev pub connection_of : List Segment → Segment → Membership
connection_of past o = connection_with o (members o past)

-- the strays of a pair, of all strays, named by the first of them
abbrev pub stray_of : List Segment → Segment → Stray
stray_of all s = record { from = s.from; to = s.to; segments = length (filter (is_of (pair_of s)) all) }

-- the connections of a capture, in order of opening
abbrev pub connections_of : List Segment → List Membership
connections_of past = map (connection_of past) (openings past)

-- the strays of a capture, one for each pair, in order of first sight
abbrev pub strays_of : List Segment → List Stray
strays_of past = map (stray_of (strays past)) (first_strays past)
