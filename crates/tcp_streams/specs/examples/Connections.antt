-- Worked examples of openings, of what belongs to them, and of strays (RFC 9293, 3.5).
use Rattle.std.specs.Prelude.{◌≡◌, ℕ, List, [], ◌∷◌, map, Option, Some, None}
use Rattle.packet_heads.specs.declared.packets.Endpoint.{Endpoint}
use Rattle.packet_heads.specs.declared.packets.Segment.{Segment}
use Rattle.tcp_streams.specs.declared.members.Connection.{Connection}
use Rattle.tcp_streams.specs.Membership.{AreConnections, strays_of}
use Rattle.tcp_streams.specs.code.Past.{Membership, membership}
use Rattle.tcp_streams.specs.examples.Captured.{endpoint, syn, syn_ack, plain, packets}

abbrev client : Endpoint
client = endpoint 1 40000

abbrev server : Endpoint
server = endpoint 2 80

abbrev opened : (client server : Endpoint) → (number client_isn : ℕ) → Option ℕ → List ℕ → Membership
opened client server number client_isn server_isn members = record {
  client = client;
  server = server;
  rec = number;
  client_isn = client_isn;
  server_isn = server_isn;
  members = members;
}

-- whatever connections are found in a capture of these segments, they are these
abbrev AreOpened : List Segment → List Membership → Type 0
AreOpened segments expected =
    (found : List Connection) → AreConnections (packets segments) found → map membership found ≡ expected

-- connections between two addresses, one after the other in each step, which differ in a port alone
abbrev other_client : Endpoint
other_client = endpoint 1 40001

abbrev other_server : Endpoint
other_server = endpoint 2 81

abbrev pub by_ports : List Segment
by_ports =
    syn 1 client server 1000
    ∷ syn 2 other_client server 1000
    ∷ syn 3 client other_server 1000
    ∷ syn_ack 4 server client 5000
    ∷ syn_ack 5 server other_client 6000
    ∷ syn_ack 6 other_server client 7000
    ∷ plain 7 other_client server 1001
    ∷ plain 8 client other_server 1001
    ∷ plain 9 client server 1001
    ∷ []

abbrev pub PortsTellApart : Type 0
PortsTellApart =
    AreOpened by_ports (
    opened client server 1 1000 (Some 5000) (1 ∷ 4 ∷ 9 ∷ [])
    ∷ opened other_client server 2 1000 (Some 6000) (2 ∷ 5 ∷ 7 ∷ [])
    ∷ opened client other_server 3 1000 (Some 7000) (3 ∷ 6 ∷ 8 ∷ [])
    ∷ [])

-- one pair opened twice: from the second SYN on all is the second connection's, whatever the sequence numbers
abbrev pub opened_twice : List Segment
opened_twice =
    syn 1 client server 1000
    ∷ syn_ack 2 server client 5000
    ∷ plain 3 client server 1001
    ∷ syn 4 client server 9000
    ∷ plain 5 client server 1004
    ∷ syn_ack 6 server client 8000
    ∷ plain 7 server client 5001
    ∷ []

abbrev pub OpenedTwice : Type 0
OpenedTwice =
    AreOpened opened_twice (
    opened client server 1 1000 (Some 5000) (1 ∷ 2 ∷ 3 ∷ [])
    ∷ opened client server 4 9000 (Some 8000) (4 ∷ 5 ∷ 6 ∷ 7 ∷ [])
    ∷ [])

-- strays of two pairs: each is named by its first, and counts those of both directions up to the opening
abbrev pub strays_of_two : List Segment
strays_of_two =
    plain 1 server client 5001
    ∷ plain 2 other_client server 1001
    ∷ syn_ack 3 client server 1001
    ∷ syn 4 client server 2000
    ∷ plain 5 server client 5001
    ∷ plain 6 server other_client 6001
    ∷ plain 7 other_client server 1002
    ∷ []

abbrev pub StraysOfTwoPairs : Type 0
StraysOfTwoPairs =
    strays_of (packets strays_of_two)
    ≡ record { from = server; to = client; segments = 2 }
    ∷ record { from = other_client; to = server; segments = 3 }
    ∷ []

abbrev pub OpenedAfterStrays : Type 0
OpenedAfterStrays = AreOpened strays_of_two (opened client server 4 2000 None (4 ∷ 5 ∷ []) ∷ [])

-- a SYN with the number of the last opening repeats it; with that of an earlier one it opens
abbrev pub repeated_syn : List Segment
repeated_syn =
    syn 1 client server 7
    ∷ syn 2 client server 7
    ∷ syn 3 client server 8
    ∷ syn 4 client server 7
    ∷ []

abbrev pub RepeatedSyn : Type 0
RepeatedSyn =
    AreOpened repeated_syn (
    opened client server 1 7 None (1 ∷ 2 ∷ [])
    ∷ opened client server 3 8 None (3 ∷ [])
    ∷ opened client server 4 7 None (4 ∷ [])
    ∷ [])

-- a SYN from the other end opens a connection with the roles changed, also with the same number
abbrev pub from_the_other_end : List Segment
from_the_other_end =
    syn 1 client server 1000 ∷ syn 2 server client 1000 ∷ plain 3 client server 1001 ∷ []

abbrev pub SynFromTheOtherEnd : Type 0
SynFromTheOtherEnd =
    AreOpened from_the_other_end (
    opened client server 1 1000 None (1 ∷ [])
    ∷ opened server client 2 1000 None (2 ∷ 3 ∷ [])
    ∷ [])

-- the first SYN with ACK of the server gives its number: none of the client's, and no later one
abbrev pub three_syn_acks : List Segment
three_syn_acks =
    syn 1 client server 1000
    ∷ syn_ack 2 client server 4000
    ∷ syn_ack 3 server client 5000
    ∷ syn_ack 4 server client 7000
    ∷ []

abbrev pub FirstSynAckOfTheServer : Type 0
FirstSynAckOfTheServer =
    AreOpened three_syn_acks (
    opened client server 1 1000 (Some 5000) (1 ∷ 2 ∷ 3 ∷ 4 ∷ []) ∷ [])

-- where both ends are one, all is the client's
abbrev pub one_endpoint : List Segment
one_endpoint =
    syn 1 client client 1000 ∷ syn_ack 2 client client 5000 ∷ plain 3 client client 1001 ∷ []

abbrev pub OneEndpoint : Type 0
OneEndpoint =
    AreOpened one_endpoint
    (opened client client 1 1000 None (1 ∷ 2 ∷ 3 ∷ []) ∷ [])
