-- A flow that is laid out while the side's pieces come one by one.
use Rattle.tcp_streams.proofs.Words.{◌≡◌, ℕ, ◌<◌, List, [], ◌∷◌, ◌++◌, Option, None, Some, refl, sym, ◌∙◌, arith}
use Rattle.tcp_streams.proofs.Words.{◌+◌, ◌-◌, ◌^◌, length, IsSome, All, IfSome}
use Rattle.tcp_streams.proofs.Words.{All-push, All-weaker, append-nil, length-append, false≢true}
use Rattle.tcp_streams.proofs.Words.{zero, suc, Rises, Source, arrival, end_of_offsets, AreCaptured, IsCaptured}
use Rattle.tcp_streams.proofs.Words.{IsSame, IsFlow, IsGap, AreTimely, at, bytes_in, Interval, Arrival}
use Rattle.tcp_streams.specs.{Flow.AreArrivals, Flow.AreBytes, Sequence.later_of}
use Rattle.tcp_streams.specs.{code.Interval.IsInside, code.Interval.arrival_to, declared.side_flow.SideFlow.SideFlow}
use Rattle.tcp_streams.specs.code.{Interval.holds, SideFlow.Follows, SideFlow.IsGrowth, SideFlow.IsSideFlow}
use Rattle.tcp_streams.specs.code.SideFlow.{run_end, with_interval}
use Rattle.tcp_streams.proofs.Growth.{AreBefore, IsOf, arrives-new, more-bear, old-bear, or-left, rises-more}
use Rattle.tcp_streams.proofs.Lists.{by_Bool, by_lt, by_option, slice_get-left, slice_get-right}
use Rattle.tcp_streams.proofs.RunLemmas.{IsHeld, bytes-at, held, length-bytes_in, run_end-after}
use Rattle.tcp_streams.proofs.SideFlowLemmas.{at-before}
use Rattle.tcp_streams.proofs.{IntervalLemmas.at-append, IntervalLemmas.at-in, IntervalLemmas.at-past}
use Rattle.tcp_streams.proofs.PieceLemmas.{AreRising}
use Rattle.std.proofs.Common.{subst}

-- what is laid out of these sources so far, beside the stage that takes them
pub record IsLaid {K : Type 0} (capture : List ℕ) (sources : ℕ → Option Source) (side : SideFlow K) (bytes : List ℕ)
    (arrivals : List Arrival) : Type 0 where
  pub stage : IsSideFlow sources side
  pub reaches : length bytes ≡ side.end
  pub bytes_are : AreBytes capture sources bytes
  pub rises : Rises 0 0 arrivals side.end
  pub arrivals_are : AreArrivals sources arrivals side.end
  pub timely : AreTimely arrivals

-- what an interval brings is of its record and time
pub interval-of : (x : Interval) (o : ℕ) → IsOf x.rec x.nanos (at (x ∷ []) o)
interval-of x o =
    by_lt o x.from
    (λ _ lt. rw (at-before x o lt) tt)
    (λ _ ge. by_lt o x.upto
    (λ _ lt. rw (at-in x [] o ge lt) (refl, refl))
    (λ _ past. rw (at-past x [] o past) tt))

no-bytes : (capture : List ℕ) (run : List Interval) → length run ≡ 0 → bytes_in capture run ≡ []
no-bytes capture [] h = refl
no-bytes capture (y ∷ ys) h = absurd (omega (arith, h))

no-growth : (low high : ℕ) (run : List Interval) → run_end low run ≡ high → length run ≡ 0 → low ≡ high
no-growth low high [] e h = e
no-growth low high (y ∷ ys) e h = absurd (omega (arith, h))

-- an interval more
module _ {K : Type 0} (capture : List ℕ) (F : ℕ → Option Source) (side side' : SideFlow K) (bytes : List ℕ)
    (arrivals : List Arrival) (x : Interval) (run : List Interval) (h : IsLaid capture F side bytes arrivals)
    (before : AreBefore x.rec F)
    (captured : AreCaptured (length capture) (with_interval F x)) (more : IsSideFlow (with_interval F x) side')
    (growth : IsGrowth (with_interval F x) side.end side'.end run) where
  run-held : All (IsHeld (length capture)) run
  run-held = held (length capture) side.end run growth.follows (λ o le lt.
      let within : o < side'.end = omega (arith, lt, growth.reaches) in
      rw (growth.brings o le within) at (captured o (omega (arith, within, more.run.within))))

  pub run-inside : All (IsInside (length capture)) run
  run-inside = All-weaker (IsHeld (length capture)) (IsInside (length capture)) (λ y is. is.inside) run run-held

  size : side.end + length (bytes_in capture run) ≡ side'.end
  size = length-bytes_in capture side.end run growth.follows run-held ∙ growth.reaches

  bytes-more : AreBytes capture (with_interval F x) (bytes ++ bytes_in capture run)
  bytes-more o lt =
      by_lt o side.end
      (λ _ old. rw (
        or-left (F o) (at (x ∷ []) o) (h.stage.run.covered o old),
        slice_get-left bytes (bytes_in capture run) o (omega (arith, old, h.reaches)),
      ) (h.bytes_are o (omega (arith, old, h.reaches))))
      (λ _ new.
      let within : o < side'.end =
      omega (arith, lt, length-append bytes (bytes_in capture run), size, h.reaches) in
      rw (
        growth.brings o new within,
        slice_get-right bytes (bytes_in capture run) o (o - side.end) (omega (arith, new, h.reaches)),
      ) (bytes-at capture side.end run o growth.follows run-held new (omega (arith, within, growth.reaches))))

  numbered : side.end < side'.end → (0 < x.rec) × (x.nanos < 2 ^ 63)
  numbered lt =
      let arrived = arrives-new F (at (x ∷ [])) x.rec x.nanos before (interval-of x) side.end side'.end h.stage.run
      more.run side.end (omega arith) lt in
      let none : F side.end ≡ None = h.stage.run.longest (omega (arith, lt, more.run.within)) in
      let is = rw none at (captured side.end (omega (arith, lt, more.run.within))) in
      let some = rw none at (more.run.covered side.end lt) in
      by-source (at (x ∷ []) side.end) (interval-of x side.end) some is
    where
      by-source : (p : Option Source) → IsOf x.rec x.nanos p → IsSome p → IfSome p (IsCaptured (length capture))
          → (0 < x.rec) × (x.nanos < 2 ^ 63)
      by-source None of some is = absurd (false≢true some)
      by-source (Some s) of some is = (omega (arith, of.0, is.1), omega (arith, of.1, is.2))

  -- where it adds nothing
  pub laid-same : length run ≡ 0 → IsLaid capture (with_interval F x) side' bytes arrivals
  laid-same empty =
      let none : bytes_in capture run ≡ [] = no-bytes capture run empty in
      let same : side'.end ≡ side.end = sym (no-growth side.end side'.end run growth.reaches empty) in
      record {
        stage = more;
        reaches = omega (arith, same, h.reaches);
        bytes_are = subst (λ (bs : List ℕ). AreBytes capture (with_interval F x) bs)
            (rw (none, append-nil bytes) refl) bytes-more;
        rises = rw same h.rises;
        arrivals_are = λ o lt. old-bear F (at (x ∷ [])) x.rec x.nanos before (interval-of x) side.end side'.end
            h.stage.run more.run arrivals h.rises h.arrivals_are o (omega (arith, lt, same));
        timely = h.timely;
      }

  -- where it adds bytes
  pub laid-more : side.end < side'.end
      → IsLaid capture (with_interval F x) side' (bytes ++ bytes_in capture run)
      (arrivals ++ arrival_to x side'.end ∷ [])
  laid-more lt =
      let a : Arrival = arrival_to x side'.end in
      record {
        stage = more;
        reaches = omega (arith, length-append bytes (bytes_in capture run), size, h.reaches);
        bytes_are = bytes-more;
        rises = rises-more F (at (x ∷ [])) x.rec x.nanos before (interval-of x) side.end side'.end h.stage.run more.run
            arrivals h.rises h.arrivals_are a refl refl refl lt (numbered lt).0;
        arrivals_are = more-bear F (at (x ∷ [])) x.rec x.nanos before (interval-of x) side.end side'.end h.stage.run
            more.run arrivals h.rises h.arrivals_are a refl refl refl lt;
        timely = All-push (λ (e : Arrival). e.nanos < 2 ^ 63) arrivals a h.timely (numbered lt).1;
      }

-- sources that bring the same where offsets count have the same flow
module _ (F G : ℕ → Option Source) (same : IsSame F G) where
  arrival-same : (o : ℕ) → o < end_of_offsets → arrival F o ≡ arrival G o
  arrival-same zero lt = same zero lt
  arrival-same (suc o) lt =
      let start = arrival-same o (omega (arith, lt)) in
      let here = same (suc o) lt in
      (λ i. later_of (start i) (here i))

  gap-same : (n : ℕ) (gap : Option ℕ) → IsGap F n gap → IsGap G n gap
  gap-same n None h = λ o past counts. sym (same o counts) ∙ h o past counts
  gap-same n (Some g) (is, (o, past, counts, some)) = (is, (o, past, counts, rw (same o counts) at some))

  pub flow-same : (capture bytes : List ℕ) (arrivals : List Arrival) (gap : Option ℕ)
      → IsFlow capture F bytes arrivals gap → IsFlow capture G bytes arrivals gap
  flow-same capture bytes arrivals gap h =
      let within = h.run.within in record {
        run = record {
          within = within;
          covered = λ o lt. rw (same o (omega (arith, lt, within))) at (h.run.covered o lt);
          longest = λ lt. sym (same (length bytes) lt) ∙ h.run.longest lt;
        };
        bytes_are = λ o lt. rw (same o (omega (arith, lt, within))) at (h.bytes_are o lt);
        rises = h.rises;
        arrivals_are = λ o lt. rw (arrival-same o (omega (arith, lt, within))) at (h.arrivals_are o lt);
        gap_is = gap-same (length bytes) gap h.gap_is;
      }

-- what is laid out of all pieces, with the gap that the stage tells, is their flow
pub laid-flow : {K : Type 0} (capture : List ℕ) (F : ℕ → Option Source) (side : SideFlow K) (bytes : List ℕ)
    (arrivals : List Arrival) (gap : Option ℕ) → IsLaid capture F side bytes arrivals → IsGap F side.end gap
    → IsFlow capture F bytes arrivals gap
laid-flow capture F side bytes arrivals gap h g =
    let same : side.end ≡ length bytes = sym h.reaches in record {
      run = rw same at h.stage.run;
      bytes_are = h.bytes_are;
      rises = rw same at h.rises;
      arrivals_are = rw same at h.arrivals_are;
      gap_is = rw same at g;
    }

-- a run that is not empty ends past where it begins
pub run-some : (low : ℕ) (run : List Interval) → Follows low run → 0 < length run → low < run_end low run
run-some low [] f lt = absurd (omega (arith, lt))
run-some low (x ∷ xs) f lt = omega (arith, f.0, f.1.some, run_end-after x.upto xs f.2)

-- pieces in order of record: those before one are of records before its
rising-last : (low : ℕ) (xs : List Interval) (x : Interval) (ys : List Interval) → AreRising low (xs ++ x ∷ ys)
    → low < x.rec
rising-last low [] x ys h = h.0
rising-last low (y ∷ xs) x ys h = omega (arith, h.0, rising-last y.rec xs x ys h.1)

pub rising-before : (low : ℕ) (xs : List Interval) (x : Interval) (ys : List Interval) → AreRising low (xs ++ x ∷ ys)
    → AreBefore x.rec (at xs)
rising-before low [] x ys h o = tt
rising-before low (y ∷ xs) x ys h o =
    by_Bool (holds y o)
    (λ e. rw e (rising-last y.rec xs x ys h.1))
    (λ e. rw e (rising-before y.rec xs x ys h.1 o))

-- what is so of all pieces' sources is so of those of the first ones
pub front-captured : (size : ℕ) (xs ys : List Interval) → AreCaptured size (at (xs ++ ys)) → AreCaptured size (at xs)
front-captured size xs ys h o counts =
    by_option (at xs o)
    (λ e. rw e tt)
    (λ s e.
    let whole : at (xs ++ ys) o ≡ Some s = at-append xs ys o ∙ rw e refl in
    let is = rw whole at (h o counts) in
    rw e is)

-- with one piece more
pub one-more : (xs : List Interval) (x : Interval) → at (xs ++ x ∷ []) ≡ with_interval (at xs) x
one-more xs x = (λ i. λ o. at-append xs (x ∷ []) o i)
