-- A packet that holds a segment names its endpoints in its front.
use Rattle.capture_parts.proofs.Terms.{AllByRecursion, Bool, List, SegmentsName, Some, [], ap, arith, big_from-take}
use Rattle.capture_parts.proofs.Terms.{big_number, drop, drop-take, false, find, front_of, get_or-take, if◌then◌else◌}
use Rattle.capture_parts.proofs.Terms.{le-ltb, length, length-drop, length-take, ltb-false, names_endpoints, not-false}
use Rattle.capture_parts.proofs.Terms.{pair_in, refl, slice_index, subst, sym, take, true, ℕ, ◌%◌, ◌*◌, ◌+◌, ◌-◌, ◌/◌}
use Rattle.capture_parts.proofs.Terms.{get_or, ◌<◌, ◌==◌, ◌^◌, ◌∙◌, ◌∷◌, ◌≡◌, ◌≤◌}
use Rattle.std.specs.Option.{option_map_or}
use Rattle.std.proofs.Math.Nat.{mod-lt}
use Rattle.pcap_records.specs.LinkType.{raw_ip}
use Rattle.packet_heads.specs.Decision.{decision_lines, is_partial, segment_of}
use Rattle.packet_heads.specs.Ethernet.{header_length, is_tagged}
use Rattle.packet_heads.specs.Ipv4 as ipv4
use Rattle.packet_heads.specs.Link.{datagram_start}
use Rattle.packet_heads.specs.Tcp as tcp
use Rattle.packet_heads.specs.code.Standing.{IsPassedOver}
use Rattle.packet_heads.specs.declared.packets.Packet.{Packet}
use Rattle.packet_heads.specs.declared.packets.Packet.TheVariants as packets
use Rattle.packet_heads.specs.declared.packets.Segment.{Segment}
use Rattle.capture_parts.specs.declared.pair.Endpoints.{Endpoints}

-- where every line of a table passes a packet over, a segment is answered where none applies
none_applies : (lines : List (Bool × Packet)) → AllByRecursion (λ line. IsPassedOver line.1) lines → (x s : Segment)
    → option_map_or (λ (line : Bool × Packet). line.1) (find (λ (line : Bool × Packet). line.0) lines)
    (packets.Segment x)
    ≡ packets.Segment s → AllByRecursion (λ line. line.0 ≡ false) lines × (x ≡ s)
none_applies [] over x s e = (tt, cc)
none_applies ((true, a) ∷ later) over x s e = absurd (subst IsPassedOver e over.0)
none_applies ((false, a) ∷ later) over x s e =
    let (rest, same) = none_applies later over.1 x s e in
    ((refl, rest), same)

-- ---- numbers in a front

number_in_front : (n m i : ℕ) (xs : List ℕ) → i + n ≤ m → big_number n (drop i (take m xs)) ≡ big_number n (drop i xs)
number_in_front n m i xs fits =
    let sum : m ≡ i + (m - i) = omega (arith, fits) in
    ap (λ (k : ℕ). big_number n (drop i (take k xs))) sum
    ∙ ap (big_number n) (drop-take i (m - i) xs)
    ∙ big_from-take 0 n (m - i) (drop i xs) (omega (arith, fits))

start_in_front : (link : ℕ) (packet : List ℕ) → datagram_start link (front_of packet) ≡ datagram_start link packet
unfolding header_length is_tagged
start_in_front link packet =
    ap (λ (n : ℕ). if link == raw_ip then 0 else (if n == 0x8100 then 18 else 14))
    (number_in_front 2 82 12 packet (omega arith))

start_small : (link : ℕ) (packet : List ℕ) → datagram_start link packet ≤ 18
unfolding header_length
start_small link packet = grind arith

-- the ports of a segment in its front
ports_in : (n : ℕ) (s : List ℕ) → 4 ≤ n → (tcp.source_port (take n s) ≡ tcp.source_port s)
    × (tcp.destination_port (take n s) ≡ tcp.destination_port s)
unfolding tcp.source_port tcp.destination_port
ports_in n s fits = (number_in_front 2 n 0 s (omega (arith, fits)), number_in_front 2 n 2 s (omega (arith, fits)))

-- the front of a datagram, long enough for the longest header and ports
module _ (k : ℕ) (d : List ℕ) (many : 64 ≤ k) where
  -- what names the endpoints, and the length of the header
  kept : (ipv4.version (take k d) ≡ ipv4.version d) × (ipv4.protocol (take k d) ≡ ipv4.protocol d)
      × (ipv4.source_address (take k d) ≡ ipv4.source_address d)
      × (ipv4.destination_address (take k d) ≡ ipv4.destination_address d)
      × (ipv4.header_length (take k d) ≡ ipv4.header_length d) × (ipv4.header_length d ≤ 60)
  unfolding ipv4.version ipv4.protocol ipv4.source_address ipv4.destination_address ipv4.header_words
  kept =
      let first : get_or (take k d) 0 0 ≡ get_or d 0 0 = get_or-take k d 0 0 (omega (arith, many)) in
      let few : slice_index d 0 % 2 ^ 4 < 16 = mod-lt (slice_index d 0) (omega arith) in (
        ap (λ (n : ℕ). n / 2 ^ 4) first,
        get_or-take k d 9 0 (omega (arith, many)),
        number_in_front 4 k 12 d (omega (arith, many)),
        number_in_front 4 k 16 d (omega (arith, many)),
        ap (λ (n : ℕ). 4 * (n % 2 ^ 4)) first,
        omega (arith, few),
      )

  -- it names the endpoints of the segment behind it, where no line of the decision passes it over
  named : (ipv4.version d == 4) ≡ true → (ipv4.protocol d == 6) ≡ true → 20 ≤ length d
      → 20 ≤ length (ipv4.segment_bytes d) → (names_endpoints (take k d) ≡ true) × (pair_in (take k d) ≡ record {
        from = record { address = ipv4.source_address d; port = tcp.source_port (ipv4.segment_bytes d) };
        to = record { address = ipv4.destination_address d; port = tcp.destination_port (ipv4.segment_bytes d) };
      })
  named is_version is_protocol long segment_long =
      let (version, protocol, source, destination, same, short) = kept in
      let h : ℕ = ipv4.header_length d in
      let a : ℕ = k - h in
      let b : ℕ = ipv4.datagram_end d - h in
      let s : List ℕ = drop h d in
      let size = length-take k d in
      let n = length-take b s in
      let m = length-drop h d in
      let enough = le-ltb (length (take k d)) 20 (omega (arith, size, long, many)) in
      let there = le-ltb (length (take k d)) (ipv4.header_length (take k d) + 4)
      (omega (arith, size, same, short, segment_long, n, m, many)) in
      let sum : k ≡ h + a = omega (arith, short, many) in
      let front : drop (ipv4.header_length (take k d)) (take k d) ≡ take a s =
      ap (λ (n : ℕ). drop n (take k d)) same ∙ ap (λ (n : ℕ). drop h (take n d)) sum ∙ drop-take h a d in
      let seen = ports_in a s (omega (arith, short, many)) in
      let held = ports_in b s (omega (arith, segment_long, n)) in
      let from = ap tcp.source_port front ∙ seen.0 ∙ sym held.0 in
      let to = ap tcp.destination_port front ∙ seen.1 ∙ sym held.1 in
      (rw (enough, version, is_version, protocol, is_protocol, there) refl, rw (source, destination, from, to) refl)

-- ---- from the decision to the front

pub segments_name_lem : SegmentsName
segments_name_lem link number row packet s e =
    let start : ℕ = datagram_start link packet in
    let d : List ℕ = drop start packet in
    let lines = decision_lines (link == raw_ip) (is_partial row) packet d (ipv4.segment_bytes d) in
    let ((_, (_, (long, (version, (_, (_, (_, (_, (protocol, (short, _)))))))))), same) =
    none_applies lines (tt, (tt, (tt, (tt, (tt, (tt, (tt, (tt, (tt, (tt, (tt, tt)))))))))))
    (segment_of number row (row.start + start) d) s e in
    let k : ℕ = 82 - start in
    let small : start ≤ 18 = start_small link packet in
    let sum : 82 ≡ start + k = omega (arith, small) in
    let seen : drop (datagram_start link (front_of packet)) (front_of packet) ≡ take k d =
    ap (λ (n : ℕ). drop n (front_of packet)) (start_in_front link packet)
    ∙ ap (λ (n : ℕ). drop start (take n packet)) sum
    ∙ drop-take start k packet in
    let (is, pair) = named k d (omega (arith, small)) (not-false _ version) (not-false _ protocol) (ltb-false _ 20 long)
    (ltb-false _ 20 short) in
    rw (seen, is) (ap Some
    (pair ∙ ap (λ (y : Segment). let p : Endpoints = record { from = y.from; to = y.to } in p) same))
