-- On the pieces of a side: what they bring, laid out as they come, makes the side's flow.
use Rattle.tcp_streams.proofs.Words.{◌≡◌, ℕ, ◌<◌, List, [], ◌∷◌, Some, sym, ◌∙◌, arith, ◌+◌, ◌-◌, ◌^◌, ◌++◌, length, ap}
use Rattle.tcp_streams.proofs.Words.{◌≤◌}
use Rattle.tcp_streams.proofs.Words.{take, drop, IfSome, IsTrue, filter_map, filter_map-append, take-append-drop}
use Rattle.tcp_streams.proofs.Words.{append_assoc, IfSome_then, PayloadsRise, bytes_of, is_sent_by, IsGap}
use Rattle.tcp_streams.proofs.Words.{segment_of, source, Source, end_of_offsets, IsAssembled, AreCaptured}
use Rattle.tcp_streams.proofs.Words.{at, member_piece, piece, Interval, Flow, StartedSide}
use Rattle.tcp_streams.specs.code.{Assembled.IsOfCapture, Assembled.segments_by, Interval.IsInside}
use Rattle.tcp_streams.specs.{code.SideFlow.with_interval, declared.side_flow.SideFlow.SideFlow}
use Rattle.tcp_streams.proofs.{FlowLemmas.side-fits, Growth.AreBefore, IntervalLemmas.covered-fit, Lists.by_Bool}
use Rattle.tcp_streams.proofs.LaidFlow.{IsLaid, flow-same, front-captured, laid-flow, laid-more, laid-same, one-more}
use Rattle.tcp_streams.proofs.LaidFlow.{rising-before, run-inside, run-some}
use Rattle.tcp_streams.specs.code.{Interval.arrival_to, SideFlow.IsGrowth, SideFlow.IsSideFlow}
use Rattle.tcp_streams.proofs.Words.{All, Arrival, Option, bytes_in}
use Rattle.tcp_streams.proofs.{Lists.by_option}
use Rattle.tcp_streams.proofs.PieceLemmas.{ArePiecesOf, found-at, piece-is, pieces-are, stands-at}
use Rattle.std.proofs.Common.{subst}

-- the piece of a member lies in the capture
member-inside : (size : ℕ) (of : StartedSide) (m : ℕ) → size < 2 ^ 31 → PayloadsRise 0 size of.packets.now
    → IfSome (member_piece of m) (IsInside size)
member-inside size of m small rise =
    by_option (segment_of of.packets.now m)
    (λ e. rw e tt)
    (λ s e.
    let stands = stands-at size of.packets.now (m - 1) s rise (found-at of.packets.now m s e) in
    let most : size ≤ 2 ^ 31 = omega arith in
    rw e (by_Bool (is_sent_by of.connection.now of.side s)
    (λ sent. rw sent (IfSome_then (piece of.initial_number s) (piece-is of.initial_number size most s stands)
    (λ x is. record { interval = is.interval; captured = omega (arith, is.within, stands.within) })))
    (λ other. rw other tt)))

module _ (capture : List ℕ) (of : StartedSide) (is : IsOfCapture capture of) where
  abbrev pieces : List Interval
  pieces = filter_map (member_piece of) of.connection.now.members.items

  pub piece-inside : (m : ℕ) (x : Interval) → Some x ≡ member_piece of m → IsInside (length capture) x
  piece-inside m x e = rw (← e) at (member-inside (length capture) of m is.size is.payloads)

  pub side-pieces : ArePiecesOf of.initial_number (length capture) 0 (segments_by of) pieces
  side-pieces = pieces-are (length capture) is.size of is.payloads is.times is.numbered 0
      of.connection.now.members.items is.members

  pub pieces-captured : AreCaptured (length capture) (at pieces)
  pieces-captured = λ o lt.
      rw (side-pieces.same o lt) at (IfSome_then (source of.initial_number (segments_by of) o) (side-pieces.cited o)
      (λ x cited. cited.1))

  -- what is laid out of all pieces is the side's flow
  pub assembled : {K : Type 0} (side : SideFlow K) (f : Flow)
      → IsLaid capture (at pieces) side (bytes_of f) f.arrivals.items
      → IsGap (at pieces) side.end f.gap → IsTrue f.started → IsAssembled capture of f
  assembled side f laid gap started =
      let same = λ (o : ℕ) (lt : o < end_of_offsets). sym (side-pieces.same o lt) in
      let flow = flow-same (at pieces) (source of.initial_number (segments_by of)) same capture (bytes_of f)
      f.arrivals.items f.gap (laid-flow capture (at pieces) side (bytes_of f) f.arrivals.items f.gap laid gap) in
      let within = covered-fit (length (bytes_of f)) pieces
      (λ o lt. rw (side-pieces.same o (omega (arith, flow.run.within, lt))) at (flow.run.covered o lt)) in
      let fits = side-fits of.packets.now (length capture) of.connection.now of.side is.payloads is.members in
      let fit = side-pieces.fit in
      record {
        started = started;
        is_flow = flow;
        within = omega arith;
        orderly = record { short = omega (arith, is.size); rises = flow.rises; timely = laid.timely };
      }

  -- the step of a loop over the members: one piece more, or none
  module _ (k : ℕ) where
    abbrev pub front : List Interval
    front = filter_map (member_piece of) (take k of.connection.now.members.items)

    abbrev pub rest : List Interval
    rest = filter_map (member_piece of) (drop (k + 1) of.connection.now.members.items)

    pub split-at : (x : Interval) → filter_map (member_piece of) (take (k + 1) of.connection.now.members.items)
        ≡ front ++ x ∷ [] → pieces ≡ front ++ x ∷ rest
    split-at x e =
        let f = member_piece of in
        let members = of.connection.now.members.items in
        ap (filter_map f) (sym (take-append-drop (k + 1) members))
        ∙ filter_map-append f (take (k + 1) members) (drop (k + 1) members)
        ∙ rw e (append_assoc front (x ∷ []) rest)

    module _ (x : Interval) (split : pieces ≡ front ++ x ∷ rest) where
      pub front-before : AreBefore x.rec (at front)
      front-before = rising-before 0 front x rest (rw split at side-pieces.rise)

      pub more-captured : AreCaptured (length capture) (with_interval (at front) x)
      more-captured =
          let whole = rw split at pieces-captured in
          subst (λ (F : ℕ → Option Source). AreCaptured (length capture) F) (one-more front x)
          (front-captured (length capture) (front ++ x ∷ []) rest (rw append_assoc whole))

      -- what the stage says of any sources it says of those of the pieces before
      module _ {K : Type 0} (side side' : SideFlow K) (bytes : List ℕ) (arrivals : List Arrival) (run : List Interval)
          (laid : IsLaid capture (at front) side bytes arrivals)
          (stands : (F : ℕ → Option Source) → IsSideFlow F side → IsSideFlow (with_interval F x) side')
          (growth : (F : ℕ → Option Source) → IsSideFlow F side
          → IsGrowth (with_interval F x) side.end side'.end run) where
        pub next-inside : All (IsInside (length capture)) run
        next-inside = run-inside capture (at front) side side' bytes arrivals x run laid front-before more-captured
            (stands (at front) laid.stage) (growth (at front) laid.stage)

        pub next-more : 0 < length run
            → IsLaid capture (at (front ++ x ∷ [])) side' (bytes ++ bytes_in capture run)
            (arrivals ++ arrival_to x side'.end ∷ [])
        next-more some =
            let grows = growth (at front) laid.stage in
            let past : side.end < side'.end = omega (arith, run-some side.end run grows.follows some, grows.reaches) in
            subst (λ (F : ℕ → Option Source). IsLaid capture F side' (bytes ++ bytes_in capture run)
            (arrivals ++ arrival_to x side'.end ∷ [])) (sym (one-more front x))
            (laid-more capture (at front) side side' bytes arrivals x run laid front-before more-captured
            (stands (at front) laid.stage) grows past)

        pub next-same : length run ≡ 0 → IsLaid capture (at (front ++ x ∷ [])) side' bytes arrivals
        next-same none =
            subst (λ (F : ℕ → Option Source). IsLaid capture F side' bytes arrivals) (sym (one-more front x))
            (laid-same capture (at front) side side' bytes arrivals x run laid front-before more-captured
            (stands (at front) laid.stage) (growth (at front) laid.stage) none)
