-- Which segments belong to which opening, and which to none (RFC 9293, 3.5; which SYN opens a connection of a capture
-- is this profile's own choice).
use Rattle.std.specs.Prelude.{◌≡◌, Bool, false, ◌&&◌, ◌==◌, not, if◌then◌else◌, List, [], ◌∷◌, ◌++◌, map, filter, find}
use Rattle.std.specs.Prelude.{fold, length, Option, None, Some, is_none, option_map}
use Rattle.std.specs.List.{AllZip, filter_map, list_any}
use Rattle.packet_heads.specs.declared.packets.Packet.{Packet}
use Rattle.packet_heads.specs.declared.packets.Segment.{Segment}
use Rattle.tcp_streams.specs.declared.members.Connection.{Connection}
use Rattle.tcp_streams.specs.declared.members.Stray.{Stray}
use Rattle.tcp_streams.specs.Packets.{segment_in}
use Rattle.tcp_streams.specs.Pair.{is_endpoint, is_same_pair}

-- a SYN without ACK asks for a connection (RFC 9293, 3.5)
abbrev pub is_request : Segment → Bool
is_request s = s.syn && not s.ack

-- a request opens one, unless it says again what the last opening of its pair said: the same sender and sequence number
abbrev pub opens : Segment → (last : Option Segment) → Bool
opens s None = is_request s
opens s (Some o) = is_request s && not (is_endpoint s.from o.from && (s.seq == o.seq))

-- a segment, and the opening that it belongs to, if any: the last of its pair, at or before it
abbrev pub Belonging : Type 0
Belonging = Segment × Option Segment

-- the last opening of the segment's pair is that of the newest segment of the pair
abbrev pub last_opening : Segment → List Belonging → Option Segment
last_opening s [] = None
last_opening s (b ∷ earlier) = if is_same_pair s b.0 then b.1 else last_opening s earlier

-- one more segment, with its opening
abbrev pub with_segment : List Belonging → Segment → List Belonging
with_segment earlier s =
    (s, if opens s (last_opening s earlier) then Some s else last_opening s earlier) ∷ earlier

-- the segments of a capture with their openings, the newest first
abbrev pub belongings : List Packet → List Belonging
belongings packets = fold with_segment [] (filter_map segment_in packets)

-- the list, and then the segment if the test holds
abbrev pub with_if : Bool → List Segment → Segment → List Segment
with_if test before s = if test then before ++ s ∷ [] else before

-- the openings, in order
abbrev pub openings : List Belonging → List Segment
openings [] = []
openings (b ∷ earlier) = with_if (opens b.0 (last_opening b.0 earlier)) (openings earlier) b.0

-- this opening is the one: a record opens one connection at most
abbrev pub is_opening : Segment → Option Segment → Bool
is_opening o None = false
is_opening o (Some p) = p.rec == o.rec

-- the segments that belong to the opening, in order
abbrev pub members : Segment → List Belonging → List Segment
members o [] = []
members o (b ∷ earlier) = with_if (is_opening o b.1) (members o earlier) b.0

-- the segments that belong to none, in order
abbrev pub strays : List Belonging → List Segment
strays [] = []
strays (b ∷ earlier) = with_if (is_none b.1) (strays earlier) b.0

-- the first of them of each pair, in order
abbrev pub first_strays : List Belonging → List Segment
first_strays [] = []
first_strays (b ∷ earlier) =
    with_if (is_none b.1 && not (list_any (is_same_pair b.0) (strays earlier))) (first_strays earlier) b.0

-- a server's SYN with ACK, in the connection of the opening (RFC 9293, 3.5)
abbrev pub is_answer : Segment → Segment → Bool
is_answer o s = not (is_endpoint s.from o.from) && (s.syn && s.ack)

-- the connection of an opening: the opener is the client, and its sequence number the client's initial number; the
-- server's is that of the first SYN with ACK which is not the opener's (RFC 9293, 3.4)
pub record IsConnectionOf (all : List Belonging) (o : Segment) (c : Connection) : Type 0 where
  pub client : c.client ≡ o.from
  pub server : c.server ≡ o.to
  pub rec : c.rec ≡ o.rec
  pub client_isn : c.client_isn ≡ o.seq
  pub server_isn : c.server_isn ≡ option_map (λ (s : Segment). s.seq) (find (is_answer o) (members o all))
  pub members_are : c.members.items ≡ map (λ (s : Segment). s.rec) (members o all)

-- these are the connections of a capture, in order of opening
abbrev pub AreConnections : List Packet → List Connection → Type 0
AreConnections packets found = AllZip (IsConnectionOf (belongings packets)) (openings (belongings packets)) found

-- the strays of a pair, of all strays, named by the first of them
abbrev pub stray_of : List Segment → Segment → Stray
stray_of all s = record { from = s.from; to = s.to; segments = length (filter (is_same_pair s) all) }

-- the strays of a capture, one for each pair, in order of first sight
abbrev pub strays_of : List Packet → List Stray
strays_of packets = map (stray_of (strays (belongings packets))) (first_strays (belongings packets))
