-- On growths of a connection's flows that a cutter is fed.
use Rattle.std.proofs.Common.{◌≡◌, ℕ, ◌+◌, ◌<◌, ◌≤◌, true, false, List, [], ◌∷◌, ◌++◌, length, refl, ap, sym}
use Rattle.std.proofs.Common.{◌∙◌, arith, length-append, suc, inl, inr, subst}
use Rattle.std.proofs.lemmas.Bool.{cases_lt, eqb-true, le-ltb, lt-ltb, true≢false}
use Rattle.std.proofs.lemmas.List.{append-nil}
use Rattle.std.proofs.lemmas.List.Elements.{All-cons, All-get_or, All-head, All-nil, All-tail, All-weaker}
use Rattle.std.proofs.lemmas.List.{Kept.AllPairs-filter, Quantifiers.all_pairs_push}
use Rattle.std.specs.List.{AllPairs}
use Rattle.std.specs.Prelude.{All, ◌==◌}
use Rattle.audit_terms.specs.Side.{is_side}
use Rattle.tcp_streams.proofs.Staging.{bytes_grown-append, filter-each, length-grown, of_side-append}
use Rattle.tcp_streams.proofs.{Lists.by_Bool, Rooms.both-grown}
use Rattle.tcp_streams.specs.code.Grown.{ComesBefore, Growth, IsNextGrowth, arrivals_grown, bytes_grown, of_side}
use Rattle.tcp_streams.specs.code.Grown.{with_arrival}
use Rattle.h2_frames.proofs.Words.{Arrival, Client, Flow, Frame, Server, Side, Sides, byte_arrival}
use Rattle.h2_frames.specs.code.Connection.{HasFed, HasTaken, MayGrow, fed_length, grown}
use Rattle.h2_frames.specs.code.Fed.{Fed, IsFlowFed, MayBring, with_more}
use Rattle.h2_frames.specs.code.Growths.{IsFlowGrown, arrivals_fed, both_fed, fed_by}
use Rattle.h2_frames.specs.declared.connection.ConnectionCutter.{ConnectionCutter}

-- one growth more of a side
arrivals_fed-more : (low : ℕ) (gs : List Growth) (g : Growth)
    → arrivals_fed low (gs ++ g ∷ [])
    ≡ arrivals_fed low gs
    ++ record { upto = low + length (bytes_grown gs) + length g.bytes; rec = g.rec; nanos = g.nanos } ∷ []
arrivals_fed-more low [] g =
    let size : low + length g.bytes ≡ low + 0 + length g.bytes = omega arith in
    (λ i. record { upto = size i; rec = g.rec; nanos = g.nanos } ∷ [])
arrivals_fed-more low (h ∷ gs) g =
    let next = low + length h.bytes in
    let size : next + length (bytes_grown gs) + length g.bytes ≡ low + length (bytes_grown (h ∷ gs)) + length g.bytes =
    omega (arith, length-append h.bytes (bytes_grown gs)) in
    ap (λ l. record { upto = next; rec = h.rec; nanos = h.nanos } ∷ l) (arrivals_fed-more next gs g)
    ∙ (λ i. record { upto = next; rec = h.rec; nanos = h.nanos } ∷ arrivals_fed next gs
    ++ record { upto = size i; rec = g.rec; nanos = g.nanos } ∷ [])

fed_by-more : (gs : List Growth) (g : Growth) → fed_by (gs ++ g ∷ []) ≡ with_more (fed_by gs) g.bytes g.rec g.nanos
fed_by-more gs g =
    let bytes : bytes_grown (gs ++ g ∷ []) ≡ bytes_grown gs ++ g.bytes =
    bytes_grown-append gs (g ∷ []) ∙ ap (λ l. bytes_grown gs ++ l) (append-nil g.bytes) in
    let size : 0 + length (bytes_grown gs) + length g.bytes ≡ length (bytes_grown gs) + length g.bytes =
    omega arith in
    let arrivals = arrivals_fed-more 0 gs g
    ∙ (λ i. arrivals_fed 0 gs ++ record { upto = size i; rec = g.rec; nanos = g.nanos } ∷ []) in
    (λ i. record { bytes = bytes i; arrivals = arrivals i })

-- and of both
own-more : (side : Side) (gs : List Growth) (g : Growth) → is_side side g.side ≡ true
    → of_side side (gs ++ g ∷ []) ≡ of_side side gs ++ g ∷ []
own-more side gs g is = of_side-append side gs (g ∷ []) ∙ ap (λ l. of_side side gs ++ l) (rw is refl)

other-more : (side : Side) (gs : List Growth) (g : Growth) → is_side side g.side ≡ false
    → of_side side (gs ++ g ∷ []) ≡ of_side side gs
other-more side gs g is =
    of_side-append side gs (g ∷ []) ∙ ap (λ l. of_side side gs ++ l) (rw is refl) ∙ append-nil (of_side side gs)

pub both_fed-more : (side : Side) (gs : List Growth) (g : Growth) → g.side ≡ side
    → both_fed (gs ++ g ∷ []) ≡ grown side g.bytes g.rec g.nanos (both_fed gs)
both_fed-more Client gs g is =
    let own = ap fed_by (own-more Client gs g (ap (is_side Client) is)) ∙ fed_by-more (of_side Client gs) g in
    let other = ap fed_by (other-more Server gs g (ap (is_side Server) is)) in
    (λ i. record { client = own i; server = other i })
both_fed-more Server gs g is =
    let own = ap fed_by (own-more Server gs g (ap (is_side Server) is)) ∙ fed_by-more (of_side Server gs) g in
    let other = ap fed_by (other-more Client gs g (ap (is_side Client) is)) in
    (λ i. record { client = other i; server = own i })

-- what is so of the records of growths is so of their arrivals
arrivals-each : (P : ℕ → Type 0) (low : ℕ) (gs : List Growth) → All (λ (g : Growth). P g.rec) gs
    → All (λ (a : Arrival). P a.rec) (arrivals_fed low gs)
arrivals-each P low [] h = All-nil (λ (a : Arrival). P a.rec)
arrivals-each P low (g ∷ gs) h =
    All-cons (λ (a : Arrival). P a.rec) _ (arrivals_fed (low + length g.bytes) gs)
    (All-head (λ (g : Growth). P g.rec) g gs h)
    (arrivals-each P (low + length g.bytes) gs (All-tail (λ (g : Growth). P g.rec) g gs h))

-- growths that come before one of a side
module _ (g : Growth) where
  not-after : (h : Growth) → ComesBefore h g → h.rec ≤ g.rec
  not-after h before = elim before [ inl lt ↦ omega (arith, lt) | inr same ↦ omega (arith, same.0) ]

  own-before : (side : Side) (gs : List Growth) → All (λ (h : Growth). ComesBefore h g) gs
      → All (λ (h : Growth). h.rec ≤ g.rec) (of_side side gs)
  own-before side gs before =
      filter-each (λ (h : Growth). is_side side h.side) (λ (h : Growth). h.rec ≤ g.rec) gs
      (All-weaker (λ (h : Growth). ComesBefore h g) (λ (h : Growth). h.rec ≤ g.rec) not-after gs before)

  earlier : (side : Side) (h : Growth) → is_side side h.side ≡ true → is_side side g.side ≡ false → ComesBefore h g
      → h.rec < g.rec
  earlier side h is apart before =
      elim before [
        | inl lt ↦ lt
        | inr same ↦ absurd (true≢false (sym is ∙ ap (is_side side) same.2 ∙ apart))
      ]

  other-before : (side : Side) (gs : List Growth) → is_side side g.side ≡ false
      → All (λ (h : Growth). ComesBefore h g) gs → All (λ (h : Growth). h.rec < g.rec) (of_side side gs)
  other-before side [] apart before = All-nil (λ (h : Growth). h.rec < g.rec)
  other-before side (h ∷ gs) apart before =
      let later = other-before side gs apart (All-tail (λ (h : Growth). ComesBefore h g) h gs before) in
      by_Bool (is_side side h.side)
      (λ e. rw e (All-cons (λ (h : Growth). h.rec < g.rec) h (of_side side gs)
      (earlier side h e apart (All-head (λ (h : Growth). ComesBefore h g) h gs before)) later))
      (λ e. rw e later)

  may-bring : (own other : Side) (gs : List Growth) → 0 < g.rec → is_side other g.side ≡ false
      → All (λ (h : Growth). ComesBefore h g) gs
      → MayBring g.rec (fed_by (of_side own gs)) (fed_by (of_side other gs))
  may-bring own other gs some apart before = record {
    counted = some;
    own_before = arrivals-each (λ (n : ℕ). n ≤ g.rec) 0 (of_side own gs) (own-before own gs before);
    other_before = arrivals-each (λ (n : ℕ). n < g.rec) 0 (of_side other gs) (other-before other gs apart before);
  }

  pub may-grow : (side : Side) (gs : List Growth) → g.side ≡ side → IsNextGrowth gs g
      → MayGrow side g.rec (both_fed gs)
  may-grow Client gs is next = may-bring Client Server gs next.numbered (ap (is_side Server) is) next.behind
  may-grow Server gs is next = may-bring Server Client gs next.numbered (ap (is_side Client) is) next.behind

-- the first arrival of growths
record Begins (upto : ℕ) (h : Growth) (arrivals : List Arrival) : Type 0 where
  first : Arrival
  later : List Arrival
  are : arrivals ≡ first ∷ later
  past : upto ≤ first.upto
  rec_is : first.rec ≡ h.rec
  nanos_is : first.nanos ≡ h.nanos

first-two : (g h : Growth) (gs : List Growth) → AllPairs ComesBefore (g ∷ h ∷ gs) → g.rec ≡ h.rec → g.nanos ≡ h.nanos
first-two g h gs alike same =
    elim (alike 0 1 g (omega arith) (omega arith)) [ inl lt ↦ absurd (omega (arith, lt, same)) | inr is ↦ is.1 ]

pairs-tail : (g : Growth) (gs : List Growth) → AllPairs ComesBefore (g ∷ gs) → AllPairs ComesBefore gs
pairs-tail g gs alike i j d lt within = alike (suc i) (suc j) d (omega (arith, lt)) (omega (arith, within))

begins : (low : ℕ) (h : Growth) (gs : List Growth) → AllPairs ComesBefore (h ∷ gs)
    → Begins (low + length h.bytes) h (arrivals_grown low (h ∷ gs))
begins low h [] alike =
    record { first = _; later = []; are = refl; past = omega arith; rec_is = refl; nanos_is = refl }
begins low h (g ∷ gs) alike =
    let next = begins (low + length h.bytes) g gs (pairs-tail h (g ∷ gs) alike) in
    let upto = low + length h.bytes in
    let all : arrivals_grown low (h ∷ g ∷ gs) ≡ with_arrival h upto (next.first ∷ next.later) =
    ap (with_arrival h upto) next.are in
    by_Bool (next.first.rec == h.rec)
    (λ e.
    let same : next.first.rec ≡ h.rec = eqb-true next.first.rec h.rec e in
    let nanos : h.nanos ≡ g.nanos = first-two h g gs alike (sym same ∙ next.rec_is) in record {
      first = next.first;
      later = next.later;
      are = all ∙ rw e refl;
      past = omega (arith, next.past);
      rec_is = same;
      nanos_is = next.nanos_is ∙ sym nanos;
    })
    (λ e. record {
      first = record { upto = upto; rec = h.rec; nanos = h.nanos };
      later = next.first ∷ next.later;
      are = all ∙ rw e refl;
      past = omega arith;
      rec_is = refl;
      nanos_is = refl;
    })

arrives-here : (a : Arrival) (later : List Arrival) (o : ℕ) → o < a.upto → byte_arrival (a ∷ later) o ≡ a
arrives-here a later o lt = rw (lt-ltb o a.upto lt) refl

arrives-later : (a : Arrival) (later : List Arrival) (o : ℕ) → a.upto ≤ o
    → byte_arrival (a ∷ later) o ≡ byte_arrival later o
arrives-later a later o ge = rw (le-ltb o a.upto ge) refl

-- a byte of growths arrives as it was fed: growths of one record, which are one arrival, have one time
abbrev AreAlike : Arrival → Arrival → Type 0
AreAlike a b = (a.rec ≡ b.rec) × (a.nanos ≡ b.nanos)

alike : (low : ℕ) (gs : List Growth) (o : ℕ) → AllPairs ComesBefore gs → low ≤ o → o < low + length (bytes_grown gs)
    → AreAlike (byte_arrival (arrivals_grown low gs) o) (byte_arrival (arrivals_fed low gs) o)
alike low [] o pairs ge lt = absurd (omega (arith, ge, lt))
alike low (g ∷ []) o pairs ge lt = (refl, refl)
alike low (g ∷ h ∷ gs) o pairs ge lt =
    let upto = low + length g.bytes in
    let own : Arrival = record { upto = upto; rec = g.rec; nanos = g.nanos } in
    let rest = pairs-tail g (h ∷ gs) pairs in
    let next = begins upto h gs rest in
    let fed = arrivals_fed upto (h ∷ gs) in
    let size = length-append g.bytes (bytes_grown (h ∷ gs)) in
    let more = λ (ge : upto ≤ o). alike upto (h ∷ gs) o rest ge (omega (arith, lt, size)) in
    let all : arrivals_grown low (g ∷ h ∷ gs) ≡ with_arrival g upto (next.first ∷ next.later) =
    ap (with_arrival g upto) next.are in
    by_Bool (next.first.rec == g.rec)
    (λ e.
    let same : next.first.rec ≡ g.rec = eqb-true next.first.rec g.rec e in
    let nanos : g.nanos ≡ h.nanos = first-two g h gs pairs (sym same ∙ next.rec_is) in
    let joined : arrivals_grown low (g ∷ h ∷ gs) ≡ next.first ∷ next.later = all ∙ rw e refl in
    elim (cases_lt o upto) [
      | inl early ↦
          let one = ap (λ l. byte_arrival l o) joined
          ∙ arrives-here next.first next.later o (omega (arith, early, next.past)) in
          rw (one, arrives-here own fed o early) (same, next.nanos_is ∙ sym nanos)
      | inr late ↦ rw (joined ∙ sym next.are, arrives-later own fed o late) (more late)
    ])
    (λ e.
    let apart : arrivals_grown low (g ∷ h ∷ gs) ≡ own ∷ next.first ∷ next.later = all ∙ rw e refl in
    elim (cases_lt o upto) [
      | inl early ↦
          rw (
            ap (λ l. byte_arrival l o) apart ∙ arrives-here own (next.first ∷ next.later) o early,
            arrives-here own fed o early,
          ) (refl, refl)
      | inr late ↦
          rw (
            ap (λ l. byte_arrival l o) apart ∙ arrives-later own (next.first ∷ next.later) o late
                ∙ ap (λ l. byte_arrival l o) (sym next.are),
            arrives-later own fed o late,
          ) (more late)
    ])

-- the flow that growths make up was fed
pub flow-fed : (side : Side) (gs : List Growth) (flow : Flow) → AllPairs ComesBefore gs
    → IsFlowGrown flow (of_side side gs) → IsFlowFed flow (fed_by (of_side side gs))
flow-fed side gs flow pairs is =
    let own = AllPairs-filter ComesBefore (λ (g : Growth). is_side side g.side) gs pairs in
    let at = λ (o : ℕ) (lt : o < length (bytes_grown (of_side side gs))).
    alike 0 (of_side side gs) o own (omega arith) (omega (arith, lt)) in record {
      bytes = is.bytes;
      recs = λ o lt. ap (λ l. (byte_arrival l o).rec) is.arrivals ∙ (at o lt).0;
      times = λ o lt. ap (λ l. (byte_arrival l o).nanos) is.arrivals ∙ (at o lt).1;
    }

module _ {V : Type 0} (after : List Frame → V → Type 0) where
  -- how many bytes were fed
  pub fed-short : (gs : List Growth) → fed_length (both_fed gs) ≡ length (bytes_grown gs)
  fed-short gs = sym (both-grown gs)

  -- one growth more was taken
  pub taken-more : (gs : List Growth) (g : Growth) (old new : ConnectionCutter V) → HasTaken after gs old
      → IsNextGrowth gs g → HasFed after (grown g.side g.bytes g.rec g.nanos (both_fed gs)) new
      → HasTaken after (gs ++ g ∷ []) new
  taken-more gs g old new has next fed = record {
    fed = subst (λ (f : Sides Fed). HasFed after f new) (sym (both_fed-more g.side gs g refl)) fed;
    in_order = all_pairs_push ComesBefore gs g has.in_order
        (λ k d lt. All-get_or (λ (h : Growth). ComesBefore h g) gs k d lt next.behind);
    short = omega (arith, next.room, length-grown gs (g ∷ []), ap length (append-nil g.bytes));
  }
