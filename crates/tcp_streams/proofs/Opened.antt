-- What one packet more makes of the connections whose segments are handed on.
use Rattle.std.specs.List.{AllZip}
use Rattle.std.specs.Prelude.{slice_range}
use Rattle.std.proofs.Common.{subst}
use Rattle.std.proofs.lemmas.List.{Sums.sum_by_push}
use Rattle.packet_heads.specs.code.Handed.{ArePayloadsOf, Handed, IsNextPacket, packets_among}
use Rattle.packet_heads.specs.declared.packets.Packet.TheVariants.{Refused, Skipped}
use Rattle.tcp_streams.proofs.Belongings.{belonging-are, opened-are}
use Rattle.tcp_streams.proofs.{FlowLemmas.past-sum, Lists.by_Bool, Numbered.past_after-push, StagingSteps.segments-push}
use Rattle.tcp_streams.proofs.Kept.{kept-joins, kept-opens, kept-strays, zip-at, zip-each, zip-long}
use Rattle.tcp_streams.proofs.Past.{RecordsDescend-weaker, members-to_come, opening_at-kept, opening_at-opens}
use Rattle.tcp_streams.proofs.Waits.{last-push}
use Rattle.tcp_streams.proofs.Words.{All, All-cons, All-head, All-nil, All-push, All-tail, AreNumberedFrom, Carried}
use Rattle.tcp_streams.proofs.Words.{IsOpened, IsUnopened, List, None, Packet, RecordsDescend, Segment, [], ap}
use Rattle.tcp_streams.proofs.Words.{arith, eq-eqb, false, get_or, is_opening, length, length-append}
use Rattle.tcp_streams.proofs.Words.{members, opening_at, openings, opens, pair_of, past_after, past_of, payload_length}
use Rattle.tcp_streams.proofs.Words.{payload_sum, refl, set, slice_get_within, sum_by-cons, sym, true, ℕ, ◌+◌, ◌++◌}
use Rattle.tcp_streams.proofs.Words.{◌<◌, ◌^◌, ◌∙◌, ◌∷◌, ◌≡◌, ◌≤◌}
use Rattle.tcp_streams.specs.code.Flows.{last_of}
use Rattle.tcp_streams.specs.code.Opened.{AreOpened, AreVisited, HasOpened, IsKept, IsNextOf, IsNextPacketOf, IsVisited}
use Rattle.tcp_streams.specs.code.Opened.{sent_after, sent_of, sent_past, with_handed}
use Rattle.tcp_streams.specs.code.Side.{Sent, segments_among}
use Rattle.tcp_streams.specs.code.Table.{IsTableOf, IsUnknown}
use Rattle.tcp_streams.specs.code.Taken.{IsNextSent}
use Rattle.tcp_streams.specs.declared.connection_stage.ConnectionStage.{ConnectionStage}

-- what belongs to an opening, with payloads and without
pub among-of : (o : Segment) (past : List Sent) → segments_among (sent_of o past) ≡ members o (segments_among past)
among-of o [] = refl
among-of o (one ∷ past) =
    by_Bool (is_opening o (opening_at one.0 (segments_among past)))
    (λ e. rw e (segments-push (sent_of o past) one.0 one.1 ∙ ap (λ l. l ++ one.0 ∷ []) (among-of o past)))
    (λ e. rw e (among-of o past))

none-among : (sent : List Sent) → segments_among sent ≡ [] → sent ≡ []
none-among [] e = refl
none-among (one ∷ sent) e = absurd cc

members-few : (o : Segment) (past : List Segment) → payload_sum (members o past) ≤ payload_sum past
members-few o [] = omega arith
members-few o (s ∷ past) =
    by_Bool (is_opening o (opening_at s past))
    (λ e. rw e (omega (
      arith,
      sum_by_push payload_length (members o past) s,
      sum_by-cons payload_length s past,
      members-few o past,
    )))
    (λ e. rw e (omega (arith, sum_by-cons payload_length s past, members-few o past)))

last-below : (n : ℕ) (o : Segment) (past : List Sent) → RecordsDescend n (segments_among past) → 0 < n
    → last_of 0 (sent_of o past) < n
last-below n o [] falls some = some
last-below n o (one ∷ past) falls some =
    by_Bool (is_opening o (opening_at one.0 (segments_among past)))
    (λ e. rw (e, last-push 0 (sent_of o past) one) falls.0)
    (λ e. rw e (last-below n o past
    (RecordsDescend-weaker one.0.rec n (segments_among past) (omega (arith, falls.0)) falls.1) some))

-- of an opening that is still to come nothing was sent
none-yet : (o : Segment) (past : List Sent) → RecordsDescend o.rec (segments_among past) → sent_of o past ≡ []
none-yet o past falls =
    none-among (sent_of o past) (among-of o past ∙ members-to_come o (segments_among past) falls)

-- the next segment comes next to what was sent of any connection
pub next-sent : (past : List Sent) (s : Segment) → IsNextOf past s → 0 < s.rec → (o : Segment)
    → IsNextSent (sent_of o past) (last_of 0 (sent_of o past)) s
next-sent past s next some o = record {
  above = last-below s.rec o past next.above some;
  room = omega (arith, ap payload_sum (among-of o past), members-few o (segments_among past), next.room);
}

module _ {V : Type 0} (after : Segment → List Sent → ℕ → V → Type 0) (past : List Sent) (s : Segment)
    (payload : List ℕ) where
  -- what does not look back to an opening leaves what is kept of it
  stays : (o : Segment) → is_opening o (opening_at s (segments_among past)) ≡ false → (v : V) → IsKept after past o v
      → IsKept after ((s, payload) ∷ past) o v
  stays o e v h =
      let same : sent_of o ((s, payload) ∷ past) ≡ sent_of o past = rw e in
      subst (λ sent. after o sent (last_of 0 sent) v) (sym same) h

  -- what does is handed on to it
  joins : (o : Segment) → is_opening o (opening_at s (segments_among past)) ≡ true → (v : V)
      → after o (sent_of o past ++ (s, payload) ∷ []) s.rec v → IsKept after ((s, payload) ∷ past) o v
  joins o e v h =
      let more : sent_of o ((s, payload) ∷ past) ≡ sent_of o past ++ (s, payload) ∷ [] = rw e in
      subst (λ sent. after o sent (last_of 0 sent) v) (sym more)
      (subst (λ n. after o (sent_of o past ++ (s, payload) ∷ []) n v)
      (sym (last-push 0 (sent_of o past) (s, payload))) h)

  module _ (old new : ConnectionStage V) (are : AreOpened after past old) (next : IsNextOf past s)
      (table : IsTableOf (s ∷ segments_among past) new.table) where
    -- the segment opens a connection
    pub opens-now : opens s (segments_among past) ≡ true → (v : V) → after s ((s, payload) ∷ []) s.rec v
        → new.opened.items ≡ old.opened.items ++ v ∷ [] → AreOpened after ((s, payload) ∷ past) new
    opens-now e v h is =
        let segments = segments_among past in
        let first = subst (λ sent. after s (sent ++ (s, payload) ∷ []) s.rec v) (sym (none-yet s past next.above)) h in
        let own = joins s (rw (opening_at-opens segments s e) (eq-eqb s.rec s.rec refl)) v first in
        record {
          table = table;
          kept = rw is (kept-opens segments s (IsKept after past) (IsKept after ((s, payload) ∷ past)) stays
              old.opened.items are.kept next.above e v own);
        }

    -- it joins the connection at an index
    pub joins-now : opens s (segments_among past) ≡ false → (k : ℕ)
        (o : IsOpened (segments_among past) (pair_of s) k) (v : V)
        → after o.last (sent_of o.last past ++ (s, payload) ∷ []) s.rec v
        → new.opened.items ≡ set old.opened.items k v → AreOpened after ((s, payload) ∷ past) new
    joins-now e k o v h is =
        let segments = segments_among past in
        let own = joins o.last (rw (opening_at-kept segments s e ∙ o.opened) (eq-eqb o.last.rec o.last.rec refl)) v h in
        record {
          table = table;
          kept = rw is (kept-joins segments s (IsKept after past) (IsKept after ((s, payload) ∷ past)) stays
              old.opened.items are.kept next.above e k o v own);
        }

    -- it belongs to none
    pub strays-now : opens s (segments_among past) ≡ false → opening_at s (segments_among past) ≡ None
        → new.opened.items ≡ old.opened.items → AreOpened after ((s, payload) ∷ past) new
    strays-now e none is =
        let segments = segments_among past in
        record {
          table = table;
          kept = rw is (kept-strays segments s (IsKept after past) (IsKept after ((s, payload) ∷ past)) stays
              old.opened.items are.kept e none);
        }

  -- what is kept at the index of an opening
  module _ (stage : ConnectionStage V) (are : AreOpened after past stage) (k : ℕ)
      (o : IsOpened (segments_among past) (pair_of s) k) where
    pub within : k < length stage.opened.items
    within = omega (
      arith,
      slice_get_within (openings (segments_among past)) k o.last o.at,
      zip-long (IsKept after past) (openings (segments_among past)) stage.opened.items are.kept,
    )

    pub kept-at : (v : V) → v ≡ get_or stage.opened.items k v → IsKept after past o.last v
    kept-at v is =
        zip-at (IsKept after past) (openings (segments_among past)) stage.opened.items k o.last v are.kept o.at is

-- a segment of a pair without opening belongs to none
pub stray-is : (past : List Segment) (s : Segment) (k : ℕ) → opens s past ≡ false → IsUnopened past (pair_of s) k
    → opening_at s past ≡ None
stray-is past s k e u = opening_at-kept past s e ∙ u.unopened

pub unknown-is : (past : List Segment) (s : Segment) → opens s past ≡ false → IsUnknown past (pair_of s)
    → opening_at s past ≡ None
unknown-is past s e u = opening_at-kept past s e ∙ u.unopened

-- what was handed on, one more
pub sent_after-push : (past : List Sent) (handed : List Handed) (one : Handed)
    → sent_after past (handed ++ one ∷ []) ≡ with_handed (sent_after past handed) one
sent_after-push past [] one = refl
sent_after-push past (first ∷ handed) one = sent_after-push (with_handed past first) handed one

segments-after : (past : List Sent) (handed : List Handed)
    → segments_among (sent_after past handed) ≡ past_after (segments_among past) (packets_among handed)
segments-after past [] = refl
segments-after past ((Carried s, payload) ∷ handed) = segments-after ((s, payload) ∷ past) handed
segments-after past ((Skipped _, payload) ∷ handed) = segments-after past handed
segments-after past ((Refused _, payload) ∷ handed) = segments-after past handed

-- the past of what was handed on is that of its packets
pub segments-past : (handed : List Handed) → segments_among (sent_past handed) ≡ past_of (packets_among handed)
segments-past handed = segments-after [] handed

sent-few : (past : List Sent) (handed : List Handed) → length (sent_after past handed) ≤ length past + length handed
sent-few past [] = omega arith
sent-few past ((Carried s, payload) ∷ handed) = omega (arith, sent-few ((s, payload) ∷ past) handed)
sent-few past ((Skipped _, payload) ∷ handed) = omega (arith, sent-few past handed)
sent-few past ((Refused _, payload) ∷ handed) = omega (arith, sent-few past handed)

descends : (n : ℕ) (past : List Sent) (packet : Packet) (payload : List ℕ) → RecordsDescend n (segments_among past)
    → AreNumberedFrom n (packet ∷ []) → RecordsDescend (n + 1) (segments_among (with_handed past (packet, payload)))
descends n past (Carried s) payload falls number =
    (omega (arith, number.0), subst (λ m. RecordsDescend m (segments_among past)) (sym number.0) falls)
descends n past (Skipped _) payload falls number =
    RecordsDescend-weaker n (n + 1) (segments_among past) (omega arith) falls
descends n past (Refused _) payload falls number =
    RecordsDescend-weaker n (n + 1) (segments_among past) (omega arith) falls

-- the payloads of all segments, the next one's too
room-for : (handed : List Handed) (s : Segment) (payload : List ℕ) → IsNextPacket handed (Carried s) payload
    → payload_sum (segments_among (sent_past handed)) + payload_length s < 2 ^ 31
room-for handed s payload next =
    let packets = packets_among handed in
    let all = past-sum 24 (2 ^ 31) [] (packets ++ Carried s ∷ []) next.rise in
    omega (
      arith,
      all,
      ap payload_sum (past_after-push [] packets (Carried s)),
      sum_by-cons payload_length s (past_of packets),
      ap payload_sum (segments-past handed),
    )

module _ {V : Type 0} (after : Segment → List Sent → ℕ → V → Type 0) where
  -- the next packet comes next
  pub next-of : (handed : List Handed) (stage : ConnectionStage V) (packet : Packet) (payload : List ℕ)
      → HasOpened after handed stage → IsNextPacket handed packet payload
      → IsNextPacketOf (sent_past handed) packet payload
  next-of handed stage (Carried s) payload is next = (
    record {
      ordered = next.has.ordered;
      short = next.has.within;
      size = next.has.size;
      numbered = omega (arith, next.numbered.0);
      timely = next.has.timely;
    },
    record {
      few = omega (arith, sent-few [] handed, next.few);
      above = subst (λ n. RecordsDescend n (segments_among (sent_past handed))) (sym next.numbered.0) is.above;
      room = room-for handed s payload next;
    },
  )
  next-of handed stage (Skipped _) payload is next = tt
  next-of handed stage (Refused _) payload is next = tt

  -- and is one more
  pub opened-more : (handed : List Handed) (old new : ConnectionStage V) (packet : Packet) (payload : List ℕ)
      → HasOpened after handed old → IsNextPacket handed packet payload
      → AreOpened after (with_handed (sent_past handed) (packet, payload)) new
      → HasOpened after (handed ++ (packet, payload) ∷ []) new
  opened-more handed old new packet payload is next are =
      let one : Handed = (packet, payload) in
      let past : sent_past (handed ++ one ∷ []) ≡ with_handed (sent_past handed) one = sent_after-push [] handed one in
      let size : length handed + 1 + 1 ≡ length (handed ++ one ∷ []) + 1 =
      omega (arith, length-append handed (one ∷ [])) in
      record {
        opened = subst (λ sent. AreOpened after sent new) (sym past) are;
        above = subst (λ sent. RecordsDescend (length (handed ++ one ∷ []) + 1) (segments_among sent)) (sym past)
            (subst (λ n. RecordsDescend n (segments_among (with_handed (sent_past handed) one))) size
            (descends (length handed + 1) (sent_past handed) packet payload is.above next.numbered));
      }

-- payloads that stand in a capture
abbrev IsIn : List ℕ → Sent → Type 0
IsIn capture one = one.1 ≡ slice_range capture one.0.lo one.0.hi

stand-after : (capture : List ℕ) (past : List Sent) (handed : List Handed) → All (IsIn capture) past
    → ArePayloadsOf capture handed → All (IsIn capture) (sent_after past handed)
stand-after capture past [] h are = h
stand-after capture past ((Carried s, payload) ∷ handed) h are =
    stand-after capture ((s, payload) ∷ past) handed (All-cons (IsIn capture) (s, payload) past are.0 h) are.1
stand-after capture past ((Skipped _, payload) ∷ handed) h are = stand-after capture past handed h are
stand-after capture past ((Refused _, payload) ∷ handed) h are = stand-after capture past handed h are

stand-of : (capture : List ℕ) (o : Segment) (past : List Sent) → All (IsIn capture) past
    → All (IsIn capture) (sent_of o past)
stand-of capture o [] h = h
stand-of capture o (one ∷ past) h =
    let P = IsIn capture in
    let rest = stand-of capture o past (All-tail P one past h) in
    by_Bool (is_opening o (opening_at one.0 (segments_among past)))
    (λ e. rw e (All-push P (sent_of o past) one rest (All-head P one past h)))
    (λ e. rw e rest)

-- of the capture's openings each was handed its segments
module _ {V : Type 0} (after : Segment → List Sent → ℕ → V → Type 0) where
  pub visited : (capture : List ℕ) (handed : List Handed) (stage : ConnectionStage V) → HasOpened after handed stage
      → ArePayloadsOf capture handed → AreVisited after capture (packets_among handed) stage.opened.items
  visited capture handed stage is are =
      let packets = packets_among handed in
      let past = sent_past handed in
      let stand = stand-after capture [] handed (All-nil (IsIn capture)) are in
      let same = opened-are packets ∙ sym (ap openings (segments-past handed)) in
      subst (λ os. AllZip (IsVisited after capture packets) os stage.opened.items) (sym same)
      (zip-each (IsKept after past) (IsVisited after capture packets) (openings (segments_among past))
      stage.opened.items
      (λ i d lt v h. let o = get_or (openings (segments_among past)) i d in record {
        sent = sent_of o past;
        are = among-of o past ∙ ap (members o) (segments-past handed) ∙ sym (belonging-are packets o);
        stand = stand-of capture o past stand;
        visited = h;
      })
      is.opened.kept)
