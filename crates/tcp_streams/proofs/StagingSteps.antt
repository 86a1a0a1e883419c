-- A side's next segment: what it makes of the flow that was handed on.
use Rattle.tcp_streams.proofs.Words.{◌≡◌, ℕ, ◌<◌, List, [], ◌∷◌, ◌++◌, Option, None, Some, refl, sym, ◌∙◌, arith}
use Rattle.tcp_streams.proofs.Words.{◌+◌, ◌-◌, ◌^◌, length, ap, All, append-nil, payload_length, payload_sum}
use Rattle.tcp_streams.proofs.Words.{slice_range}
use Rattle.tcp_streams.proofs.Words.{All-cons, All-head, All-nil, All-tail, All-weaker, option_or}
use Rattle.tcp_streams.proofs.Words.{map-append}
use Rattle.tcp_streams.proofs.Words.{Side, Segment, Interval, Source, IsSame, Rises, at, source, width}
use Rattle.tcp_streams.proofs.Words.{piece}
use Rattle.std.proofs.Common.{Vec, subst}
use Rattle.std.proofs.lemmas.List.{Sums.sum_by_push}
use Rattle.std.specs.declared.alloc.Global.{Global}
use Rattle.tcp_streams.specs.{Flow.AreArrivals, Flow.AreBytes, Flow.IsLongestRun, Sequence.brings}
use Rattle.tcp_streams.specs.code.Grown.{Growth, arrivals_grown, bytes_grown, of_side}
use Rattle.tcp_streams.specs.code.{Content.AreBytesIn, SideFlow.IsGrowth, SideFlow.IsSideFlow, SideFlow.with_interval}
use Rattle.tcp_streams.specs.code.SideFlow.{AllHold, Follows, IsRun, run_end}
use Rattle.tcp_streams.specs.code.Side.{AreGrowthsOf, AreOfRecord, AreSentIn, ComesNext, HasGrown, IsNextPiece, IsSent}
use Rattle.tcp_streams.specs.code.Side.{IsSideStage, Sent, holds_of, segments_among}
use Rattle.tcp_streams.specs.declared.{side_flow.SideFlow.SideFlow, side_stage.SideStage.SideStage}
use Rattle.tcp_streams.proofs.Growth.{grown, more-bear, old-bear, or-left, rises-more}
use Rattle.tcp_streams.proofs.GrowthLaws.{all-grow, brings-of, sources-before}
use Rattle.tcp_streams.proofs.Lists.{by_lt, slice_get-left, slice_get-right}
use Rattle.tcp_streams.proofs.PieceLemmas.{IsPieceOf, StandsIn, piece-is, piece-same}
use Rattle.tcp_streams.proofs.{Rooms.run-fits, Rooms.run-same, RunLemmas.run_end-after}
use Rattle.tcp_streams.proofs.Staging.{all-of-it, arrivals-more, brought-at, length-brought, length-grown, stands-same}
use Rattle.tcp_streams.proofs.Staging.{bytes_grown-append, of_side-each}
use Rattle.tcp_streams.proofs.{Contents.slice-part, Lists.length-slice_range, SideFlowSteps.growth-none}
use Rattle.tcp_streams.proofs.SideFlowSteps.{growth-same}
use Rattle.tcp_streams.specs.laws.Growth.{ComesAfter}

pub segments-push : (sent : List Sent) (s : Segment) (payload : List ℕ)
    → segments_among (sent ++ (s, payload) ∷ []) ≡ segments_among sent ++ s ∷ []
segments-push sent s payload = map-append (λ (one : Sent). one.0) sent ((s, payload) ∷ [])

-- a segment after those that were sent
pub comes-after : (sent : List Sent) (s : Segment) → All (λ (one : Sent). one.0.rec < s.rec) sent
    → ComesAfter (segments_among sent) s
comes-after [] s h = All-nil (λ (t : Segment). t.rec < s.rec)
comes-after (one ∷ sent) s h =
    let P = λ (one : Sent). one.0.rec < s.rec in
    All-cons (λ (t : Segment). t.rec < s.rec) one.0 (segments_among sent) (All-head P one sent h)
    (comes-after sent s (All-tail P one sent h))

-- payloads of those before, where those of more stand in a capture
pub sent-before : (of : Option (List ℕ)) (sent : List Sent) (one : Sent) → AreSentIn of (sent ++ one ∷ [])
    → AreSentIn of sent
sent-before None sent one h = tt
sent-before (Some capture) [] one h = All-nil _
sent-before (Some capture) (t ∷ sent) one h =
    let P = λ (one : Sent). one.1 ≡ slice_range capture one.0.lo one.0.hi in
    All-cons P t sent (All-head P t (sent ++ one ∷ []) h)
    (sent-before (Some capture) sent one (All-tail P t (sent ++ one ∷ []) h))

pub sent-last : (capture : List ℕ) (sent : List Sent) (one : Sent) → AreSentIn (Some capture) (sent ++ one ∷ [])
    → one.1 ≡ slice_range capture one.0.lo one.0.hi
sent-last capture [] one h = All-head (λ (one : Sent). one.1 ≡ slice_range capture one.0.lo one.0.hi) one [] h
sent-last capture (t ∷ sent) one h =
    let P = λ (one : Sent). one.1 ≡ slice_range capture one.0.lo one.0.hi in
    sent-last capture sent one (All-tail P t (sent ++ one ∷ []) h)

module _ (initial : ℕ) (sent : List Sent) (s : Segment) (payload : List ℕ)
    (after : ComesAfter (segments_among sent) s) where
  abbrev pub F : ℕ → Option Source
  F = source initial (segments_among sent)

  abbrev pub F' : ℕ → Option Source
  F' = source initial (segments_among (sent ++ (s, payload) ∷ []))

  is-grown : F' ≡ grown F (brings initial s)
  is-grown =
      ap (source initial) (segments-push sent s payload) ∙ all-grow initial (segments_among sent) s after

  -- the sources so far, and what an interval brings, bring what the sources with the segment bring
  pub same-with : (x : Interval) → IsSame (brings initial s) (at (x ∷ [])) → IsSame (with_interval F x) F'
  same-with x same o lt =
      ap (option_or (F o)) (sym (same o lt)) ∙ (λ i. sym is-grown i o)

  pub same-without : IsSame (brings initial s) (λ _. None) → IsSame F F'
  same-without none o lt =
      sym (or-none (F o)) ∙ ap (option_or (F o)) (sym (none o lt)) ∙ (λ i. sym is-grown i o)
    where
      or-none : (p : Option Source) → option_or p None ≡ p
      or-none None = refl
      or-none (Some y) = refl

  -- a flow that grew by a run of the segment's record
  module _ (side : Side) (old new : SideFlow (Vec ℕ Global)) (gs more : List Growth) (run : List Interval)
      (some : 0 < s.rec) (h : IsSideFlow F old) (reaches : length (bytes_grown gs) ≡ old.end)
      (rises : Rises 0 0 (arrivals_grown 0 gs) old.end) (are : AreArrivals F (arrivals_grown 0 gs) old.end)
      (before : All (λ (g : Growth). g.rec < s.rec) gs) (stands : IsSideFlow F' new)
      (growth : IsGrowth F' old.end new.end run) (sized : AreGrowthsOf side s.rec s.nanos None run more) where
    size : old.end + length (bytes_grown more) ≡ new.end
    size = length-brought side s.rec s.nanos old.end run more growth.follows sized ∙ growth.reaches

    pub reaches-more : length (bytes_grown (gs ++ more)) ≡ new.end
    reaches-more = omega (arith, length-grown gs more, reaches, size)

    grown-run : IsLongestRun (grown F (brings initial s)) new.end
    grown-run = subst (λ (G : ℕ → Option Source). IsLongestRun G new.end) is-grown stands.run

    -- the arrivals of what was handed on
    arrivals-of : (l : List Growth) → AreGrowthsOf side s.rec s.nanos None run l
        → old.end + length (bytes_grown l) ≡ new.end
        → Rises 0 0 (arrivals_grown 0 (gs ++ l)) new.end × AreArrivals F' (arrivals_grown 0 (gs ++ l)) new.end
    arrivals-of [] brought long =
        let same : old.end ≡ new.end = omega (arith, long) in (
          rw append-nil (rw same at rises),
          λ o lt. rw (append-nil gs, is-grown)
              (old-bear F (brings initial s) s.rec s.nanos (sources-before initial (segments_among sent) s after)
              (brings-of initial s) old.end new.end h.run grown-run (arrivals_grown 0 gs) rises are o
              (omega (arith, lt, same))),
        )
    arrivals-of (g ∷ l) brought long =
        let all = all-of-it side s.rec s.nanos None run (g ∷ l) brought in
        let P = λ (g : Growth). (g.side ≡ side) × (g.rec ≡ s.rec) × (g.nanos ≡ s.nanos) in
        let Q = λ (g : Growth). (g.rec ≡ s.rec) × (g.nanos ≡ s.nanos) in
        let each = All-weaker P Q (λ g is. (is.1, is.2)) (g ∷ l) all in
        let total : 0 + length (bytes_grown gs) + length (bytes_grown (g ∷ l)) ≡ new.end =
        omega (arith, reaches, long) in
        let is : arrivals_grown 0 (gs ++ g ∷ l)
        ≡ arrivals_grown 0 gs ++ record { upto = new.end; rec = s.rec; nanos = s.nanos } ∷ [] =
        arrivals-more s.rec s.nanos 0 gs g l before (All-head Q g l each) (All-tail Q g l each)
        ∙ (λ i. arrivals_grown 0 gs ++ record { upto = total i; rec = s.rec; nanos = s.nanos } ∷ []) in
        let past : old.end < new.end = omega (arith, past-first run brought growth.follows growth.reaches) in (
          rw is (rises-more F (brings initial s) s.rec s.nanos (sources-before initial (segments_among sent) s after)
              (brings-of initial s) old.end new.end h.run grown-run (arrivals_grown 0 gs) rises are
              (record { upto = new.end; rec = s.rec; nanos = s.nanos }) refl refl refl past some),
          λ o lt. rw (is, is-grown) (more-bear F (brings initial s) s.rec s.nanos
              (sources-before initial (segments_among sent) s after)
              (brings-of initial s) old.end new.end h.run grown-run (arrivals_grown 0 gs) rises are
              (record { upto = new.end; rec = s.rec; nanos = s.nanos }) refl refl refl past o lt),
        )
      where
        past-first : (run : List Interval) → AreGrowthsOf side s.rec s.nanos None run (g ∷ l) → Follows old.end run
            → run_end old.end run ≡ new.end → old.end < new.end
        past-first [] brought f e = absurd brought
        past-first (x ∷ xs) brought f e = omega (arith, f.0, f.1.some, run_end-after x.upto xs f.2, e)

    pub bytes-more : (capture : List ℕ) → AreBytes capture F (bytes_grown gs)
        → AreGrowthsOf side s.rec s.nanos (Some capture) run more
        → AreBytes capture F' (bytes_grown (gs ++ more))
    bytes-more capture bytes brought o lt =
        let long = length-grown gs more in
        by_lt o old.end
        (λ _ early.
        let stays : F' o ≡ F o = (λ i. is-grown i o) ∙ or-left (F o) (brings initial s o) (h.run.covered o early) in
        rw (
          stays,
          bytes_grown-append gs more,
          slice_get-left (bytes_grown gs) (bytes_grown more) o (omega (arith, early, reaches)),
        ) (bytes o (omega (arith, early, reaches))))
        (λ _ late.
        let within : o < new.end = omega (arith, lt, long, reaches, size) in
        rw (
          growth.brings o late within,
          bytes_grown-append gs more,
          slice_get-right (bytes_grown gs) (bytes_grown more) o (o - old.end) (omega (arith, late, reaches)),
        ) (brought-at side s.rec s.nanos capture old.end run more o growth.follows sized brought late
        (omega (arith, within, growth.reaches))))

    pub arrivals-more-of : Rises 0 0 (arrivals_grown 0 (gs ++ more)) new.end
        × AreArrivals F' (arrivals_grown 0 (gs ++ more)) new.end
    arrivals-more-of = arrivals-of more sized size

-- the payload of a piece of a segment, of which the payload stands in a capture
pub piece-bytes : (of : Option (List ℕ)) (sent : List Sent) (s : Segment) (payload : List ℕ) (x : Interval)
    → IsSent s payload → IsPieceOf s x → AreSentIn of (sent ++ (s, payload) ∷ [])
    → AreBytesIn of x (slice_range payload (x.index - s.lo) (x.index - s.lo + (x.upto - x.from)))
piece-bytes None sent s payload x is piece h =
    length-slice_range payload (x.index - s.lo) (x.index - s.lo + (x.upto - x.from)) (omega arith)
    (omega (arith, is.size, piece.first, piece.within))
    ∙ omega arith
piece-bytes (Some capture) sent s payload x is piece h =
    let here = sent-last capture sent (s, payload) h in
    let a = x.index - s.lo in
    let whole : s.hi ≡ s.lo + (s.hi - s.lo) = omega (arith, is.ordered) in
    let index : s.lo + (x.index - s.lo) ≡ x.index = omega (arith, piece.first) in
    let size : x.index - s.lo + (x.upto - x.from) - (x.index - s.lo) ≡ width x = omega arith in
    ap (λ bytes. slice_range bytes a (a + (x.upto - x.from))) (here ∙ ap (slice_range capture s.lo) whole)
    ∙ slice-part capture s.lo (s.hi - s.lo) a (a + (x.upto - x.from)) (omega arith)
    (omega (arith, piece.first, piece.within))
    ∙ (λ i. slice_range capture (index i) (index i + size i))

-- a segment more
pub stage-more : (sent : List Sent) (s : Segment) (payload : List ℕ) (gs more : List Growth) (stage stage' : SideStage)
    (G : ℕ → Option Source) (run : List Interval) (side : Side) → IsSent s payload
    → All (λ (one : Sent). one.0.rec < s.rec) sent → All (λ (g : Growth). g.rec < s.rec) gs
    → IsSideStage sent gs stage → stage'.initial_number ≡ stage.initial_number
    → IsSame G (source stage.initial_number (segments_among (sent ++ (s, payload) ∷ [])))
    → IsSideFlow G stage'.flow → IsGrowth G stage.flow.end stage'.flow.end run
    → AreGrowthsOf side s.rec s.nanos None run more
    → ((capture : List ℕ) → AreSentIn (Some capture) (sent ++ (s, payload) ∷ [])
    → AreGrowthsOf side s.rec s.nanos (Some capture) run more)
    → ((of : Option (List ℕ)) → AreSentIn of (sent ++ (s, payload) ∷ []) → AllHold (holds_of of) stage'.flow.kept)
    → IsSideStage (sent ++ (s, payload) ∷ []) (gs ++ more) stage'
stage-more sent s payload gs more stage stage' G run side is sent-is grown-is h initial same stands growth sized brought
    holds =
    let after = comes-after sent s sent-is in
    let start = stage.initial_number in
    let F'' = source start (segments_among (sent ++ (s, payload) ∷ [])) in
    let flow = stands-same G F'' same stage'.flow stands in
    let grows = growth-same G F'' stage.flow.end stage'.flow.end run same flow.run.within growth in
    let arrived = arrivals-more-of start sent s payload after side stage.flow stage'.flow gs more run is.numbered
    h.stands h.reaches h.rises h.arrivals_are grown-is flow grows sized in record {
      stands = rw initial flow;
      holds = holds;
      reaches = reaches-more start sent s payload after side stage.flow stage'.flow gs more run is.numbered h.stands
          h.reaches h.rises h.arrivals_are grown-is flow grows sized;
      bytes_are = λ capture sent-in. rw initial (bytes-more start sent s payload after side stage.flow stage'.flow gs
          more run is.numbered h.stands h.reaches h.rises h.arrivals_are grown-is flow grows sized capture
          (h.bytes_are capture (sent-before (Some capture) sent (s, payload) sent-in)) (brought capture sent-in));
      rises = arrived.0;
      arrivals_are = rw initial arrived.1;
    }

-- a segment that brings nothing
pub stage-same : (sent : List Sent) (s : Segment) (payload : List ℕ) (gs : List Growth) (stage : SideStage)
    (side : Side) → IsSent s payload → All (λ (one : Sent). one.0.rec < s.rec) sent
    → All (λ (g : Growth). g.rec < s.rec) gs → IsSideStage sent gs stage → None ≡ piece stage.initial_number s
    → IsSideStage (sent ++ (s, payload) ∷ []) (gs ++ []) stage
stage-same sent s payload gs stage side is sent-is grown-is h none =
    let start = stage.initial_number in
    let after = comes-after sent s sent-is in
    let stands-in : StandsIn s.hi s = record { ordered = is.ordered; within = omega arith } in
    let nothing = rw (← none) at (piece-same start s.hi is.short s stands-in) in
    stage-more sent s payload gs [] stage stage (source start (segments_among sent)) [] side is sent-is grown-is h refl
    (same-without start sent s payload after nothing) h.stands
    (growth-none (source start (segments_among sent)) stage.flow.end) tt (λ capture _. tt)
    (λ of sent-in. h.holds of (sent-before of sent (s, payload) sent-in))

-- a segment's piece, taken
module _ (sent : List Sent) (s : Segment) (payload : List ℕ) (stage : SideStage) (x : Interval) (is : IsSent s payload)
    (here : Some x ≡ piece stage.initial_number s) where
  stands-in : StandsIn s.hi s
  stands-in = record { ordered = is.ordered; within = omega arith }

  pub piece-of-it : IsPieceOf s x
  piece-of-it = rw (← here) at (piece-is stage.initial_number s.hi is.short s stands-in)

  -- so far as the flow will grow by it, there is room
  room-of-it : (side : Side) (grown : List Growth) → IsSideStage sent (of_side side grown) stage
      → ComesNext side sent grown s → (n : ℕ)
      → IsRun (with_interval (source stage.initial_number (segments_among sent)) x) n
      → length (bytes_grown grown) + n < 2 ^ 31 + stage.flow.end
  room-of-it side grown h next n run =
      let start = stage.initial_number in
      let same = same-with start sent s payload (comes-after sent s next.sent_before) x
      (rw (← here) at (piece-same start s.hi is.short s stands-in)) in
      let fits = run-fits start (segments_among (sent ++ (s, payload) ∷ [])) n (run-same _ _ same n run) in
      omega (
        arith,
        fits,
        ap payload_sum (segments-push sent s payload),
        sum_by_push payload_length (segments_among sent) s,
        next.room,
        h.reaches,
      )

  pub next-of-it : (side : Side) (grown : List Growth) → IsSideStage sent (of_side side grown) stage
      → ComesNext side sent grown s
      → IsNextPiece (source stage.initial_number (segments_among sent)) side grown stage.flow x
  next-of-it side grown h next = record {
    interval = piece-of-it.interval;
    stands = h.stands;
    sized = h.holds None tt;
    reaches = h.reaches;
    before = rw piece-of-it.rec_is next.grown_before;
    room = room-of-it side grown h next;
    numbered = omega (arith, piece-of-it.rec_is, is.numbered);
    timely = omega (arith, piece-of-it.nanos_is, is.timely);
  }

  module _ (side : Side) (grown more : List Growth) (stage' : SideStage)
      (h : IsSideStage sent (of_side side grown) stage) (next : ComesNext side sent grown s)
      (has : HasGrown (source stage.initial_number (segments_among sent)) side x
      (slice_range payload (x.index - s.lo) (x.index - s.lo + (x.upto - x.from))) stage.flow stage'.flow more) where
    brought-of : (of : Option (List ℕ)) → AreSentIn of (sent ++ (s, payload) ∷ [])
        → AreGrowthsOf side s.rec s.nanos of has.run more
    brought-of of sent-in =
        rw (piece-of-it.rec_is, piece-of-it.nanos_is) at (has.are of
        (piece-bytes of sent s payload x is piece-of-it sent-in)
        (h.holds of (sent-before of sent (s, payload) sent-in)))

    sized-run : AreGrowthsOf side s.rec s.nanos None has.run more
    sized-run = brought-of None tt

    pub of-record : AreOfRecord side s more
    of-record = all-of-it side s.rec s.nanos None has.run more sized-run

    pub stage-taken : stage'.initial_number ≡ stage.initial_number
        → IsSideStage (sent ++ (s, payload) ∷ []) (of_side side grown ++ more) stage'
    stage-taken initial =
        let start = stage.initial_number in
        let after = comes-after sent s next.sent_before in
        let same = rw (← here) at (piece-same start s.hi is.short s stands-in) in
        stage-more sent s payload (of_side side grown) more stage stage'
        (with_interval (source start (segments_among sent)) x) has.run side is next.sent_before
        (of_side-each side (λ (g : Growth). g.rec < s.rec) grown next.grown_before) h initial
        (same-with start sent s payload after x same) has.stands has.growth sized-run
        (λ capture sent-in. brought-of (Some capture) sent-in)
        (λ of sent-in. has.holds of (piece-bytes of sent s payload x is piece-of-it sent-in)
        (h.holds of (sent-before of sent (s, payload) sent-in)))
