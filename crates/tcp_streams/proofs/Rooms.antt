-- A flow is no longer than the payloads of its side: so both flows of a connection have room where all payloads have.
use Rattle.tcp_streams.proofs.Words.{◌≡◌, ℕ, ◌<◌, ◌≤◌, List, [], ◌∷◌, ◌++◌, Option, None, Some, refl, ◌∙◌, arith}
use Rattle.tcp_streams.proofs.Words.{◌+◌, ◌^◌, length, length-append, lt-ltb, map-append, ap, IfSome, IsSome}
use Rattle.tcp_streams.proofs.Words.{false≢true, sum_by-cons}
use Rattle.tcp_streams.proofs.Words.{Client, IsSame, is_endpoint, Segment, Server, Side, Source, Interval, at}
use Rattle.tcp_streams.proofs.Words.{option_or, option_to_list}
use Rattle.tcp_streams.proofs.Words.{payload_length, payload_sum, piece, size_of, source, width}
use Rattle.std.proofs.Common.{subst}
use Rattle.std.proofs.lemmas.List.Sums.{sum_by-append}
use Rattle.tcp_streams.specs.{Flow.IsLongestRun, Sequence.brings, Sequence.distance, Sequence.earlier_of}
use Rattle.packet_heads.specs.declared.packets.Endpoint.{Endpoint}
use Rattle.tcp_streams.specs.code.Grown.{Growth, bytes_grown, of_side}
use Rattle.tcp_streams.specs.code.{Side.IsSideStage, Side.Sent, Side.segments_among, SideFlow.IsRun}
use Rattle.tcp_streams.specs.code.Taken.{ServerStands, sent_by}
use Rattle.tcp_streams.specs.declared.{side_stage.SideStage.SideStage}
use Rattle.tcp_streams.proofs.{IntervalLemmas.at-append, IntervalLemmas.covered-fit, Lists.by_Bool, Lists.by_lt}
use Rattle.tcp_streams.proofs.PieceLemmas.{IsPieceOf, StandsIn, piece-is, piece-same}

-- sources that bring the same where offsets count have one longest run
pub run-same : (F G : ℕ → Option Source) → IsSame F G → (n : ℕ) → IsRun F n → IsRun G n
run-same F G same n run =
    let within = run.within in record {
      within = within;
      covered = λ o lt. rw (same o (omega (arith, lt, within))) at (run.covered o lt);
    }

pub longest-is : (F : ℕ → Option Source) (n : ℕ) → IsLongestRun F n → IsRun F n
longest-is F n run = record { within = run.within; covered = run.covered }

-- a segment whose payload stands alone
abbrev alone : Segment → Segment
alone s = record s { lo = 0; hi = payload_length s }

-- what the segments cover, each for itself
abbrev pieces : ℕ → List Segment → List Interval
pieces initial [] = []
pieces initial (s ∷ later) = option_to_list (piece initial (alone s)) ++ pieces initial later

module _ (initial : ℕ) where
  -- a segment covers as much wherever its payload stands
  covers-alone : (s : Segment) (o : ℕ) → IsSome (brings initial s o) → IsSome (brings initial (alone s) o)
  covers-alone s o some =
      let same : payload_length (alone s) ≡ payload_length s = omega arith in
      by_lt (distance initial s o) (payload_length s)
      (λ _ lt. rw (lt-ltb (distance initial (alone s) o) (payload_length (alone s)) (omega (arith, lt, same))) refl)
      (λ e _. absurd (false≢true (rw e at some)))

  either : (p q p' q' : Option Source) → (IsSome p → IsSome p') → (IsSome q → IsSome q') → IsSome (earlier_of p q)
      → IsSome (option_or p' q')
  either None q None q' h k some = k some
  either None q (Some y) q' h k some = refl
  either (Some x) q None q' h k some = absurd (false≢true (h refl))
  either (Some x) q (Some y) q' h k some = refl

  covers : (segments : List Segment) (o : ℕ) → o < 2 ^ 31 → payload_sum segments < 2 ^ 31
      → IsSome (source initial segments o) → IsSome (at (pieces initial segments) o)
  covers [] o lt small some = some
  covers (s ∷ later) o lt small some =
      let sum = sum_by-cons payload_length s later in
      let stands : StandsIn (payload_length s) (alone s) = record { ordered = omega arith; within = omega arith } in
      let same = piece-same initial (payload_length s) (omega (arith, small, sum)) (alone s) stands o lt in
      rw (at-append (option_to_list (piece initial (alone s))) (pieces initial later) o)
      (either (brings initial s o) (source initial later o) _ _
      (λ here. subst (λ (p : Option Source). IsSome p) same (covers-alone s o here))
      (covers later o lt (omega (arith, small, sum))) some)

  width-of : (s : Segment) (p : Option Interval) → IfSome p (IsPieceOf (alone s))
      → size_of (option_to_list p) ≤ payload_length s
  width-of s None is = omega arith
  width-of s (Some x) is = omega (arith, is.within, sum_by-cons width x [])

  fits : (segments : List Segment) → payload_sum segments < 2 ^ 31
      → size_of (pieces initial segments) ≤ payload_sum segments
  fits [] small = omega arith
  fits (s ∷ later) small =
      let sum = sum_by-cons payload_length s later in
      let stands : StandsIn (payload_length s) (alone s) = record { ordered = omega arith; within = omega arith } in
      let is = piece-is initial (payload_length s) (omega (arith, small, sum)) (alone s) stands in
      omega (
        arith,
        sum,
        width-of s (piece initial (alone s)) is,
        sum_by-append width (option_to_list (piece initial (alone s))) (pieces initial later),
        fits later (omega (arith, small, sum)),
      )

  -- a run is no longer than the payloads of its segments
  pub run-fits : (segments : List Segment) (n : ℕ) → IsRun (source initial segments) n
      → n ≤ payload_sum segments
  run-fits segments n run =
      by_lt (payload_sum segments) (2 ^ 31)
      (λ _ small. omega (
        arith,
        covered-fit n (pieces initial segments)
            (λ o lt. covers segments o (omega (arith, lt, run.within)) small (run.covered o lt)),
        fits segments small,
      ))
      (λ _ large. omega (arith, large, run.within))

-- so is what was handed on of a side
pub stage-fits : (sent : List Sent) (grown : List Growth) (stage : SideStage) → IsSideStage sent grown stage
    → length (bytes_grown grown) ≤ payload_sum (segments_among sent)
stage-fits sent grown stage h =
    omega (
      arith,
      h.reaches,
      run-fits stage.initial_number (segments_among sent) stage.flow.end
          (longest-is _ _ h.stands.run),
    )

pub server-fits : (sent : List Sent) (grown : List Growth) (server : Option SideStage) → ServerStands sent grown server
    → length (bytes_grown grown) ≤ payload_sum (segments_among sent)
server-fits sent grown None h = omega (arith, ap (λ l. length (bytes_grown l)) h)
server-fits sent grown (Some stage) h = stage-fits sent grown stage h.0

-- payloads of more segments are no fewer
pub sent-sum : (sent more : List Sent)
    → payload_sum (segments_among (sent ++ more))
    ≡ payload_sum (segments_among sent) + payload_sum (segments_among more)
sent-sum sent more =
    ap payload_sum (map-append (λ (one : Sent). one.0) sent more)
    ∙ sum_by-append payload_length (segments_among sent) (segments_among more)

-- both sides' bytes together
pub both-grown : (grown : List Growth)
    → length (bytes_grown grown)
    ≡ length (bytes_grown (of_side Client grown)) + length (bytes_grown (of_side Server grown))
both-grown [] = refl
both-grown (g ∷ later) = by-side g.side refl (both-grown later)
  where
    by-side : (side : Side) → g.side ≡ side
        → length (bytes_grown later)
        ≡ length (bytes_grown (of_side Client later)) + length (bytes_grown (of_side Server later))
        → length (bytes_grown (g ∷ later))
        ≡ length (bytes_grown (of_side Client (g ∷ later))) + length (bytes_grown (of_side Server (g ∷ later)))
    by-side Client e more =
        rw e (omega (
          arith,
          more,
          length-append g.bytes (bytes_grown later),
          length-append g.bytes (bytes_grown (of_side Client later)),
        ))
    by-side Server e more =
        rw e (omega (
          arith,
          more,
          length-append g.bytes (bytes_grown later),
          length-append g.bytes (bytes_grown (of_side Server later)),
        ))

-- and both sides' payloads
pub both-sent : (client : Endpoint) (sent : List Sent)
    → payload_sum (segments_among sent)
    ≡ payload_sum (segments_among (sent_by client Client sent)) + payload_sum
    (segments_among (sent_by client Server sent))
both-sent client [] = refl
both-sent client (one ∷ later) =
    by_Bool (is_endpoint one.0.from client)
    (λ e. rw e (omega (
      arith,
      both-sent client later,
      sum_by-cons payload_length one.0 (segments_among later),
      sum_by-cons payload_length one.0 (segments_among (sent_by client Client later)),
    )))
    (λ e. rw e (omega (
      arith,
      both-sent client later,
      sum_by-cons payload_length one.0 (segments_among later),
      sum_by-cons payload_length one.0 (segments_among (sent_by client Server later)),
    )))
