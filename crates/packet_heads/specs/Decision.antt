-- The packet decision: what a record holds.
use Rattle.std.specs.Prelude.{ℕ, ◌+◌, ◌==◌, ◌&&◌, ◌||◌, Bool, not, nat_lt, if◌then◌else◌, List, [], ◌∷◌, map, find}
use Rattle.std.specs.Prelude.{length, drop}
use Rattle.std.specs.List.{enumerate_from}
use Rattle.std.specs.Option.{option_map_or}
use Rattle.pcap_records.specs.LinkType.{raw_ip}
use Rattle.pcap_records.specs.declared.pcap_record.Record.{Record}
use Rattle.packet_heads.specs.declared.packets.Segment.{Segment}
use Rattle.packet_heads.specs.declared.packets.Packet.{Packet}
use Rattle.packet_heads.specs.declared.packets.Packet.TheVariants.{Segment as Carried, Skipped, Refused}
use Rattle.packet_heads.specs.declared.packets.Skip.TheVariants.{NotIpv4, Fragment, NotTcp}
use Rattle.packet_heads.specs.declared.packets.Refusal.TheVariants.{ShortEthernet, ShortIpv4, BadVersion}
use Rattle.packet_heads.specs.declared.packets.Refusal.TheVariants.{BadHeaderLength, BadTotalLength, PastEnd, ShortTcp}
use Rattle.packet_heads.specs.declared.packets.Refusal.TheVariants.{BadDataOffset}
use Rattle.packet_heads.specs.Link.{packet_of, datagram_start}
use Rattle.packet_heads.specs.Ethernet as ethernet
use Rattle.packet_heads.specs.Ipv4 as ipv4
use Rattle.packet_heads.specs.Tcp as tcp

-- were fewer bytes of the packet captured than it had?
abbrev pub is_partial : Record → Bool
is_partial row = nat_lt row.length row.original

-- the segment in a datagram of this record, which begins at this offset of the capture
abbrev pub segment_of : ℕ → Record → ℕ → List ℕ → Segment
segment_of number row at datagram =
    let segment = ipv4.segment_bytes datagram in
    record {
      rec = number;
      nanos = row.nanos;
      from = record { address = ipv4.source_address datagram; port = tcp.source_port segment };
      to = record { address = ipv4.destination_address datagram; port = tcp.destination_port segment };
      seq = tcp.sequence_number segment;
      syn = tcp.syn segment;
      ack = tcp.ack segment;
      lo = at + ipv4.header_length datagram + tcp.header_length segment;
      hi = at + ipv4.datagram_end datagram;
      snapped = ipv4.is_snapped (is_partial row) datagram;
    }

-- the packet decision: the first of these lines that applies, of raw IP or an Ethernet frame, captured in part or whole
abbrev pub decision_lines : (raw partial : Bool) → (packet datagram segment : List ℕ) → List (Bool × Packet)
decision_lines raw partial packet datagram segment =
    (if raw then length packet == 0 else nat_lt (length packet) (ethernet.header_length packet), Refused (if raw then ShortIpv4 else ShortEthernet))
    ∷ (if raw then ipv4.version packet == 6 else not (ethernet.ether_type packet == 0x0800), Skipped NotIpv4)
    ∷ (nat_lt (length datagram) 20, Refused ShortIpv4)
    ∷ (not (ipv4.version datagram == 4), Refused BadVersion)
    ∷ (nat_lt (ipv4.header_words datagram) 5 || nat_lt (length datagram) (ipv4.header_length datagram), Refused BadHeaderLength)
    ∷ (not (ipv4.total_length datagram == 0) && nat_lt (ipv4.total_length datagram) (ipv4.header_length datagram), Refused BadTotalLength)
    ∷ (nat_lt (length datagram) (ipv4.total_length datagram) && not partial, Refused PastEnd)
    ∷ (ipv4.is_fragment datagram, Skipped Fragment)
    ∷ (not (ipv4.protocol datagram == 6), Skipped NotTcp)
    ∷ (nat_lt (length segment) 20, Refused ShortTcp)
    ∷ (nat_lt (tcp.data_offset segment) 5 || nat_lt (length segment) (tcp.header_length segment), Refused BadDataOffset)
    ∷ []

-- the decision on a record's captured bytes: where none of the eleven lines applies, it is the segment
abbrev pub decision_on : ℕ → ℕ → Record → List ℕ → Packet
decision_on link number row packet =
    let start = datagram_start link packet in
    let datagram = drop start packet in
    let lines = decision_lines (link == raw_ip) (is_partial row) packet datagram (ipv4.segment_bytes datagram) in
    option_map_or (λ (line : Bool × Packet). line.1) (find (λ (line : Bool × Packet). line.0) lines)
    (Carried (segment_of number row (row.start + start) datagram))

-- the packet of a record of a capture of this link type; records are numbered from 1
unfoldable pub packet_decision : ℕ → ℕ → Record → List ℕ → Packet
packet_decision link number row capture = decision_on link number row (packet_of row capture)

-- the packets of all records of a capture, in order
abbrev pub packet_decisions : ℕ → List Record → List ℕ → List Packet
packet_decisions link rows capture =
    map (λ (numbered : ℕ × Record). packet_decision link numbered.0 numbered.1 capture) (enumerate_from 1 rows)
