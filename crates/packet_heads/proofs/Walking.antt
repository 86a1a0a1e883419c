-- What is handed on of records, and what it is to the capture in which they stand.
use denote.RawPtr.{null_ptr}
use Rattle.std.proofs.Common.{◌≡◌, ℕ, ◌+◌, ◌-◌, ◌^◌, ◌<◌, ◌≤◌, List, [], ◌∷◌, ◌++◌, length, map, drop, take, refl}
use Rattle.std.proofs.Common.{Option, Global, sym, ap, subst, ◌∙◌, arith}
use Rattle.std.specs.Prelude.{slice_range}
use Rattle.std.specs.List.{enumerate_from}
use Rattle.std.proofs.lemmas.List.{drop-drop, drop-take, length-append, length-drop, length-map, length-take-le}
use Rattle.std.proofs.lemmas.List.{take-take}
use Rattle.pcap_records.specs.code.Walk.{AreAll, AreCaptured, Captured, IsNext, rows_of}
use Rattle.pcap_records.specs.declared.pcap_record.Record.{Record}
use Rattle.pcap_records.specs.declared.pcap_record.Records.{Records}
use Rattle.packet_heads.specs.declared.packets.Packet.{Packet}
use Rattle.packet_heads.specs.declared.packets.Packet.TheVariants.{Segment}
use Rattle.packet_heads.specs.declared.stage.PacketStage.{PacketStage}
use Rattle.packet_heads.specs.declared.walk.PacketWalk.{PacketWalk}
use Rattle.packet_heads.specs.Decision.{decision_on, packet_decision}
use Rattle.packet_heads.specs.code.Handed.{AreHanded, ArePayloadsOf, Handed, IsHanded, IsNextPacket, packets_among}
use Rattle.packet_heads.specs.code.Handed.{HasPayload, payload_in}
use Rattle.packet_heads.specs.code.Order.{AreNumberedFrom}
use Rattle.packet_heads.specs.code.Standing.{AllStand, decisions_from, StandsIn, AreDecided}
use Rattle.packet_heads.specs.code.Walk.{HasDecoded, HasMade, HasMet}
use Rattle.packet_heads.proofs.Rows.{along, payloads_push, payloads_rise}

-- one packet for each record
handed_count : (link number : ℕ) (seen : List Captured) (handed : List Handed) → AreHanded link number seen handed
    → length handed ≡ length seen
handed_count link number [] [] are = refl
handed_count link number (one ∷ seen) (h ∷ handed) are =
    omega (arith, handed_count link (number + 1) seen handed are.1)
handed_count link number _ _ are = absurd are

-- one more, with the next number
handed_push : (link number next : ℕ) (seen : List Captured) (one : Captured) (handed : List Handed) (h : Handed)
    → AreHanded link number seen handed → next ≡ number + length seen → IsHanded link next one h
    → AreHanded link number (seen ++ one ∷ []) (handed ++ h ∷ [])
handed_push link number next [] one [] h are is more =
    (subst (λ n. IsHanded link n one h) (let here : next ≡ number = omega (arith, is) in here) more, tt)
handed_push link number next (first ∷ seen) one (f ∷ handed) h are is more =
    (are.0, handed_push link (number + 1) next seen one handed h are.1 (omega (arith, is)) more)
handed_push link number next _ one _ h are is more = absurd are

-- packets that are handed on are the decisions on the records of the capture
decided : (link number : ℕ) (seen : List Captured) (handed : List Handed) (capture : List ℕ)
    → AreHanded link number seen handed → AreCaptured capture seen
    → AreDecided link number (rows_of seen) capture (packets_among handed)
unfolding packet_decision
decided link number [] [] capture are captured = record { exact = refl; stand = tt }
decided link number (one ∷ seen) (h ∷ handed) capture are captured =
    let later = decided link (number + 1) seen handed capture are.1 captured.1 in
    let here : h.0 ≡ packet_decision link number one.0 capture =
    are.0.decided ∙ ap (decision_on link number one.0) captured.0.1 in
    record { exact = cc (later.exact, here); stand = (are.0.stands, later.stand) }
decided link number _ _ capture are captured = absurd are

-- what stands within a record's captured bytes stands within the capture
within_record : (capture packet : List ℕ) (start count lo hi : ℕ)
    → packet ≡ slice_range capture start (start + count) → start ≤ lo → lo ≤ hi → hi ≤ start + count
    → slice_range packet (lo - start) (hi - start) ≡ slice_range capture lo hi
within_record capture packet start count lo hi is low order high =
    let n = lo - start in
    let m = start + count - lo in
    let k = hi - lo in
    let whole : start + count - start ≡ n + m = omega (arith, low, order, high) in
    let size : hi - start - n ≡ k = omega (arith, low, order) in
    ap (λ l. take (hi - start - n) (drop n l)) (is ∙ ap (λ c. take c (drop start capture)) whole)
    ∙ ap (take (hi - start - n)) (drop-take n m (drop start capture))
    ∙ ap (λ c. take c (take m (drop n (drop start capture)))) size
    ∙ take-take k m (drop n (drop start capture)) (omega (arith, low, order, high))
    ∙ ap (take k) (drop-drop n start capture)
    ∙ ap (λ d. take k (drop d capture)) (let there : start + n ≡ lo = omega (arith, low) in there)

-- so the payloads are those of the capture
payloads : (link number : ℕ) (seen : List Captured) (handed : List Handed) (capture : List ℕ)
    → AreHanded link number seen handed → AreCaptured capture seen → ArePayloadsOf capture handed
payloads link number [] [] capture are captured = tt
payloads link number (one ∷ seen) ((Segment s, payload) ∷ handed) capture are captured =
    let stands = are.0.stands in (
      are.0.payload
          ∙ within_record capture one.1 one.0.start one.0.length s.lo s.hi captured.0.1 stands.2 stands.3 stands.4,
      payloads link (number + 1) seen handed capture are.1 captured.1,
    )
payloads link number (one ∷ seen) (h ∷ handed) capture are captured =
    payloads link (number + 1) seen handed capture are.1 captured.1
payloads link number _ _ capture are captured = absurd are

-- the decisions on all records, as the code counts them
decisions-numbered : (link number : ℕ) (rows : List Record) (capture : List ℕ)
    → decisions_from link number rows capture
    ≡ map (λ (numbered : ℕ × Record). packet_decision link numbered.0 numbered.1 capture) (enumerate_from number rows)
decisions-numbered link number [] capture = refl
decisions-numbered link number (row ∷ rows) capture = rw (decisions-numbered link (number + 1) rows capture)

-- these records as the list of a reading, at no place in memory
abbrev pub records_of : Global → (link : ℕ) (rows : List Record) (cut : Option ℕ) → length rows < 2 ^ 63 → Records
records_of alloc link rows cut few = record {
  link = link;
  rows = record {
    ptr = null_ptr;
    len = length rows;
    cap = length rows;
    alloc = alloc;
    items = rows;
    ok = (refl, omega arith);
    small = few;
  };
  cut = cut;
}

-- each packet that was handed on stands in its record
all_stand : (link number : ℕ) (seen : List Captured) (handed : List Handed) → AreHanded link number seen handed
    → AllStand number (rows_of seen) (packets_among handed)
all_stand link number [] [] are = tt
all_stand link number (one ∷ seen) (h ∷ handed) are =
    (are.0.stands, all_stand link (number + 1) seen handed are.1)
all_stand link number _ _ are = absurd are

-- what a packet carries of its record
carried : (number : ℕ) (row : Record) (bytes payload : List ℕ) (packet : Packet) → length bytes ≡ row.length
    → row.start + row.length ≤ 2 ^ 31 → row.nanos < 2 ^ 63 → StandsIn number row packet
    → payload ≡ payload_in row bytes packet → HasPayload packet payload
carried number row bytes payload (Segment s) size within soon stands pays =
    let from = s.lo - row.start in
    let upto = s.hi - row.start in
    let count = length-take-le (upto - from) (drop from bytes)
    (omega (arith, length-drop from bytes, size, stands.2, stands.3, stands.4)) in
    record {
      ordered = stands.3;
      within = omega (arith, stands.4, within);
      size = omega (arith, ap length pays, count, stands.2, stands.3);
      timely = omega (arith, stands.1, soon);
    }
carried number row bytes payload _ size within soon stands pays = tt

-- the number that a segment has
numbered : (number : ℕ) (row : Record) (packet : Packet) → StandsIn number row packet
    → AreNumberedFrom number (packet ∷ [])
numbered number row (Segment s) stands = (stands.0, tt)
numbered number row _ stands = tt

module _ {V : Type 0} (after : List Handed → V → Type 0) where
  -- the packet of the next record comes next
  pub next_packet : (link next : ℕ) (seen : List Captured) (row : Record) (bytes payload : List ℕ) (packet : Packet)
      (stage : PacketStage V) → (is : HasDecoded after link seen stage) → IsNext link seen row bytes
      → next ≡ stage.count + 1 → StandsIn next row packet → payload ≡ payload_in row bytes packet
      → IsNextPacket is.handed packet payload
  next_packet link next seen row bytes payload packet stage is comes count stands pays =
      let same = handed_count link 1 seen is.handed is.are in
      let here : next ≡ length is.handed + 1 = omega (arith, same, count, is.count) in
      let before = payloads_rise 1 24 24 row.start row.start (rows_of seen) (packets_among is.handed) (omega arith)
      (omega arith) comes.behind (all_stand link 1 seen is.handed is.are) in
      record {
        few = omega (arith, same, comes.few, comes.within);
        numbered = subst (λ n. AreNumberedFrom n (packet ∷ [])) here (numbered next row packet stands);
        has = carried next row bytes payload packet comes.size comes.within comes.soon stands pays;
        rise = payloads_push next 24 (2 ^ 31) row (packets_among is.handed) packet before comes.within stands;
      }

  -- a stage was handed one record more
  pub decoded_more : (link next : ℕ) (seen : List Captured) (row : Record) (bytes payload : List ℕ) (packet : Packet)
      (old new : PacketStage V) → (is : HasDecoded after link seen old) → next ≡ old.count + 1
      → packet ≡ decision_on link next row bytes → StandsIn next row packet → payload ≡ payload_in row bytes packet
      → new.count ≡ next → after (is.handed ++ (packet, payload) ∷ []) new.visitor
      → HasDecoded after link (seen ++ (row, bytes) ∷ []) new
  decoded_more link next seen row bytes payload packet old new is count decides stands pays now visited =
      let more : IsHanded link next (row, bytes) (packet, payload) =
      record { decided = decides; stands = stands; payload = pays } in
      record {
        handed = is.handed ++ (packet, payload) ∷ [];
        count = omega (arith, now, count, is.count, length-append seen ((row, bytes) ∷ []));
        are = handed_push link 1 next seen (row, bytes) is.handed (packet, payload) is.are
            (omega (arith, count, is.count)) more;
        visited = visited;
      }

  -- a walk that was fed a whole capture has handed on all of its packets
  pub has_met : (capture : List ℕ) (walk : PacketWalk V) (cut : Option ℕ) → (is : HasMade after capture walk)
      → length capture < 2 ^ 31
      → AreAll (HasDecoded after) walk.records walk.records.visitor.count cut
      → HasMet after capture walk.records.visitor.visitor cut
  has_met capture walk cut is short reading =
      let stage = is.at.visited in
      let link = walk.records.cursor.link in
      let read = is.at.passed.read in
      let rows = rows_of is.at.seen in
      let few : length rows < 2 ^ 63 = omega (arith, read.few, read.high, short) in
      let records : Records = records_of walk.records.begun.alloc link rows cut few in
      let all = decided link 1 is.at.seen stage.handed capture stage.are is.at.captured in
      let stand = along 1 rows (packets_among stage.handed) read.timely all.stand in
      record {
        handed = stage.handed;
        visited = stage.visited;
        decided = record {
          records = records;
          reading = reading capture is records refl
              (length-map is.at.seen (λ (one : Captured). one.0) ∙ sym stage.count) refl refl;
          cut = refl;
          exact = all.exact ∙ decisions-numbered link 1 rows capture;
        };
        payloads = payloads link 1 is.at.seen stage.handed capture stage.are is.at.captured;
        order = record {
          few = omega (arith, stand.count, read.few, read.high, short);
          numbered = stand.numbered;
          payloads = payloads_rise 1 24 0 walk.records.cursor.at (length capture) rows (packets_among stage.handed)
              (omega arith) read.high read.placed all.stand;
          times = stand.times;
        };
      }
