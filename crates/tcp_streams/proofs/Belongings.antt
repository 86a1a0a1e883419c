-- Segments with their openings, as the definition folds them, beside what the past shows.
use Rattle.packet_heads.specs.declared.packets.Packet.TheVariants.{Refused, Skipped}
use Rattle.std.{specs.List.AllZip, specs.Prelude.fold}
use Rattle.tcp_streams.proofs.Words.{◌∙◌}
use Rattle.tcp_streams.proofs.Words.{Carried, Option, Packet, Segment, [], filter, is_of, pair_of, segment_in}
use Rattle.tcp_streams.proofs.Words.{Connection, Membership, arith, filter_map, if◌then◌else◌, is_request, is_same_pair}
use Rattle.tcp_streams.proofs.Words.{List, None, Some, ap, map, not, refl, ◌&&◌, ◌∷◌, ◌≡◌}
use Rattle.tcp_streams.proofs.{Lists.by_Bool, Pairs.is_pair-same, Pairs.same-pair}
use Rattle.tcp_streams.specs.Membership.{AreConnections, IsConnectionOf, first_strays, last_opening, with_segment}
use Rattle.tcp_streams.specs.Membership.{Belonging, belongings, members, openings, opens, stray_of, strays, strays_of}
use Rattle.tcp_streams.specs.code.Past as past_words

-- the past's segments with their openings
abbrev belong : List Segment → List Belonging
belong [] = []
belong (s ∷ earlier) = with_segment (belong earlier) s

belong-after : (past : List Segment) (packets : List Packet)
    → fold with_segment (belong past) (filter_map segment_in packets) ≡ belong (past_words.past_after past packets)
belong-after past [] = refl
belong-after past (Carried s ∷ rest) = belong-after (s ∷ past) rest
belong-after past (Skipped _ ∷ rest) = belong-after past rest
belong-after past (Refused _ ∷ rest) = belong-after past rest

belongings-are : (packets : List Packet) → belongings packets ≡ belong (past_words.past_of packets)
belongings-are packets = belong-after [] packets

opens-are : (s : Segment) (last : Option Segment) → opens s last ≡ (is_request s && not (past_words.repeats s last))
opens-are s None = grind arith
opens-are s (Some o) = refl

-- the opening of a segment that comes after this past
abbrev owner : Segment → List Segment → Option Segment
owner t past = if opens t (last_opening t (belong past)) then Some t else last_opening t (belong past)

last-are : (s : Segment) (past : List Segment) → last_opening s (belong past) ≡ past_words.last_opening (pair_of s) past
last-are s [] = refl
last-are s (t ∷ past) =
    let opened = opens-are t (last_opening t (belong past)) in
    by_Bool (is_of (pair_of s) t)
    (λ h. rw (same-pair s t, h, opened, last-are t past, is_pair-same (pair_of s) (pair_of t) h))
    (λ h. rw (same-pair s t, h) (last-are s past))

opening-are : (s : Segment) (past : List Segment) → (opens s (last_opening s (belong past)) ≡ past_words.opens s past)
    × (owner s past ≡ past_words.opening_at s past)
opening-are s past = grind (arith, opens-are, last-are)

openings-are : (past : List Segment) → openings (belong past) ≡ past_words.openings past
openings-are [] = refl
openings-are (s ∷ past) = rw ((opening-are s past).0, openings-are past)

members-are : (o : Segment) (past : List Segment) → members o (belong past) ≡ past_words.members o past
members-are o [] = refl
members-are o (s ∷ past) = rw ((opening-are s past).1, members-are o past)

strays-are : (past : List Segment) → strays (belong past) ≡ past_words.strays past
strays-are [] = refl
strays-are (s ∷ past) = rw ((opening-are s past).1, strays-are past)

-- the tests of two segments' pairs are the same
pair-tests : (s : Segment) → is_same_pair s ≡ is_of (pair_of s)
pair-tests s = λ i t. same-pair s t i

first_strays-are : (past : List Segment) → first_strays (belong past) ≡ past_words.first_strays past
first_strays-are [] = refl
first_strays-are (s ∷ past) = grind (arith, opening-are s past, pair-tests s, strays-are past, first_strays-are past)

stray-is : (all : List Segment) (s : Segment) → stray_of all s ≡ past_words.stray_of all s
stray-is all s = rw (ap (λ test. filter test all) (pair-tests s))

-- the openings are its past's
pub opened-are : (packets : List Packet) → openings (belongings packets)
    ≡ past_words.openings (past_words.past_of packets)
opened-are packets = ap openings (belongings-are packets) ∙ openings-are (past_words.past_of packets)

-- the segments that belong to an opening are its past's members
pub belonging-are : (packets : List Packet) (o : Segment)
    → members o (belongings packets) ≡ past_words.members o (past_words.past_of packets)
belonging-are packets o = ap (members o) (belongings-are packets) ∙ members-are o (past_words.past_of packets)

-- the strays of a capture are those that its past shows
pub strays-of-past : (packets : List Packet) → strays_of packets ≡ past_words.strays_of (past_words.past_of packets)
strays-of-past packets = grind (arith, belongings-are, strays-are, first_strays-are, stray-is)

-- a connection of the definition is the table's, and the other way round
is-connection : (past : List Segment) (o : Segment) (c : Connection)
    → past_words.membership c ≡ past_words.connection_of past o → IsConnectionOf (belong past) o c
is-connection past o c e = record {
  client = ap (λ (m : Membership). m.client) e;
  server = ap (λ (m : Membership). m.server) e;
  rec = ap (λ (m : Membership). m.rec) e;
  client_isn = ap (λ (m : Membership). m.client_isn) e;
  server_isn = rw (members-are o past) (ap (λ (m : Membership). m.server_isn) e);
  members_are = rw (members-are o past) (ap (λ (m : Membership). m.members) e);
}

zip-to_map : (past : List Segment) (os : List Segment) (cs : List Connection)
    → AllZip (IsConnectionOf (belong past)) os cs
    → map past_words.membership cs ≡ map (past_words.connection_of past) os
zip-to_map past [] [] h = refl
zip-to_map past [] (c ∷ cs) h = absurd h
zip-to_map past (o ∷ os) [] h = absurd h
zip-to_map past (o ∷ os) (c ∷ cs) h = grind (arith, zip-to_map past os cs h.1, members-are, h.0, h.1)

map-to_zip : (past : List Segment) (os : List Segment) (cs : List Connection)
    → map past_words.membership cs ≡ map (past_words.connection_of past) os
    → AllZip (IsConnectionOf (belong past)) os cs
map-to_zip past [] [] e = tt
map-to_zip past [] (c ∷ cs) e = absurd (cc)
map-to_zip past (o ∷ os) [] e = absurd (cc)
map-to_zip past (o ∷ os) (c ∷ cs) e = (is-connection past o c cc, map-to_zip past os cs cc)

-- the connections of a capture are those that its past shows, and the other way round
pub connections-shown : (packets : List Packet) (found : List Connection) → AreConnections packets found
    → map past_words.membership found ≡ past_words.connections_of (past_words.past_of packets)
connections-shown packets found h = grind (arith, zip-to_map, belongings-are, openings-are)

pub shown-connections : (packets : List Packet) (found : List Connection)
    → map past_words.membership found ≡ past_words.connections_of (past_words.past_of packets)
    → AreConnections packets found
shown-connections packets found e = grind (arith, belongings-are, map-to_zip, openings-are)
