-- A capture has a packet for each record, and opens no more connections than it has packets.
use Rattle.std.proofs.Common.{◌≡◌, ◌∙◌, ℕ, ◌+◌, ◌≤◌, Bool, true, false, List, [], ◌∷◌, length, ap, arith}
use Rattle.std.proofs.Common.{length-append}
use Rattle.std.proofs.lemmas.List.{length-map}
use Rattle.std.specs.List.{enumerate_from}
use Rattle.std.proofs.lemmas.List.FromFn.{length-enumerate_from}
use Rattle.packet_heads.specs.Decision.{packet_decision, packet_decisions}
use Rattle.pcap_records.specs.declared.pcap_record.Record.{Record}
use Rattle.packet_heads.specs.declared.packets.Packet.{Packet}
use Rattle.packet_heads.specs.declared.packets.Segment.{Segment}
use Rattle.tcp_streams.proofs.Belongings.{belonging-are, opened-are}
use Rattle.tcp_streams.proofs.Numbered.{past_after-few}
use Rattle.tcp_streams.specs.Membership as membership_words
use Rattle.tcp_streams.specs.Membership.{belongings, is_opening, with_if}
use Rattle.tcp_streams.specs.code.Past.{members, opening_at, openings, opens, past_of}

with-one : (test : Bool) (before : List Segment) (s : Segment) → length (with_if test before s) ≤ length before + 1
with-one true before s = let all = length-append before (s ∷ []) in omega arith
with-one false before s = omega arith

openings-few : (past : List Segment) → length (openings past) ≤ length past
openings-few [] = omega arith
openings-few (s ∷ earlier) =
    let one = with-one (opens s earlier) (openings earlier) s in
    let rest = openings-few earlier in
    omega arith

members-few : (o : Segment) (past : List Segment) → length (members o past) ≤ length past
members-few o [] = omega arith
members-few o (s ∷ earlier) =
    let one = with-one (is_opening o (opening_at s earlier)) (members o earlier) s in
    let rest = members-few o earlier in
    omega arith

-- so few are the openings of a capture, and the segments that belong to one of them
pub openings-in : (packets : List Packet) → length (membership_words.openings (belongings packets)) ≤ length packets
openings-in packets =
    let same = ap length (opened-are packets) in
    let few = openings-few (past_of packets) in
    let past = past_after-few [] packets in
    omega arith

pub members-in : (o : Segment) (packets : List Packet)
    → length (membership_words.members o (belongings packets)) ≤ length packets
members-in o packets =
    let same = ap length (belonging-are packets o) in
    let few = members-few o (past_of packets) in
    let past = past_after-few [] packets in
    omega arith

-- there is a packet for each record
pub decisions-length : (link : ℕ) (rows : List Record) (capture : List ℕ)
    → length (packet_decisions link rows capture) ≡ length rows
decisions-length link rows capture =
    length-map (enumerate_from 1 rows)
    (λ (numbered : ℕ × Record). packet_decision link numbered.0 numbered.1 capture)
    ∙ length-enumerate_from 1 rows
