-- The steps of a flow's stage: what is handed on, and an interval that is taken.
use Rattle.tcp_streams.proofs.Words.{◌≡◌, ℕ, ◌<◌, ◌≤◌, List, [], ◌∷◌, ◌++◌, Option, None, Some, refl, sym, ◌∙◌, arith}
use Rattle.tcp_streams.proofs.Words.{◌+◌, IsSome, Source, end_of_offsets, IsInterval, at}
use Rattle.tcp_streams.proofs.Words.{source_in, Interval, none-some, false≢true, IsGap, length, ap, inl, inr, All, map}
use Rattle.tcp_streams.proofs.Words.{take, get_or, get_or-map, length-map, map-append}
use Rattle.tcp_streams.specs.{declared.side_flow.SideFlow.SideFlow}
use Rattle.tcp_streams.specs.{declared.interval.Piece.Piece}
use Rattle.tcp_streams.specs.code.SideFlow.{AllHold, AreKept, Follows, IsGrowth, IsRun, IsSideFlow, intervals, kept_at}
use Rattle.tcp_streams.specs.code.SideFlow.{run_end, with_interval}
use Rattle.tcp_streams.proofs.{Growth.or-left, IntervalLemmas.at-append, IntervalLemmas.at-in}
use Rattle.tcp_streams.proofs.Lists.{by_lt, by_option}
use Rattle.tcp_streams.proofs.RunLemmas.{Follows-push, run-beyond, run-covers, run_end-push}
use Rattle.tcp_streams.proofs.SideFlowLemmas.{kept-less, next-brought, not-held}
use Rattle.std.specs.{BTreeMap.BTreeMap, BTreeMap.get, BTreeMap.is_at, Map.lookup, Ordering.nat_cmp, Cmp.nat_cmp_is}
use Rattle.std.specs.declared.cmp.Ordering.TheVariants.{Equal}
use Rattle.std.proofs.lemmas.{Bool.cases_eq, List.take_more, List.Elements.All-get_or}
use Rattle.std.{proofs.Common.subst, specs.Prelude.OnOk, specs.Prelude.option_map}
use Rattle.std.specs.Prelude.{Err, Ok, Result}

-- nothing yet
pub growth-none : (F : ℕ → Option Source) (low : ℕ) → IsGrowth F low low []
growth-none F low = record { follows = tt; reaches = refl; brings = λ o le lt. absurd (omega (arith, le, lt)) }

-- one interval more
pub growth-push : (F : ℕ → Option Source) (low middle : ℕ) (run : List Interval) (y : Interval)
    → IsGrowth F low middle run → y.from ≡ middle → IsInterval y
    → ((o : ℕ) → middle ≤ o → o < y.upto → F o ≡ Some (source_in y o)) → IsGrowth F low y.upto (run ++ y ∷ [])
growth-push F low middle run y g begins is brought = record {
  follows = Follows-push low run y g.follows (begins ∙ sym g.reaches) is;
  reaches = run_end-push low run y;
  brings = λ o le lt.
      by_lt o middle
      (λ _ before.
      let covers = run-covers low run o g.follows le (omega (arith, before, g.reaches)) in
      g.brings o le before ∙ sym (at-append run (y ∷ []) o ∙ or-left (at run o) (at (y ∷ []) o) covers))
      (λ _ past.
      let beyond = run-beyond low run o g.follows (omega (arith, past, g.reaches)) in
      brought o past lt
      ∙ sym (at-append run (y ∷ []) o ∙ rw beyond (at-in y [] o (omega (arith, begins, past)) lt)));
}

-- of sources that bring the same where offsets count
pub growth-same : (F G : ℕ → Option Source) (low high : ℕ) (run : List Interval)
    → ((o : ℕ) → o < end_of_offsets → F o ≡ G o) → high ≤ end_of_offsets → IsGrowth F low high run
    → IsGrowth G low high run
growth-same F G low high run same within g = record {
  follows = g.follows;
  reaches = g.reaches;
  brings = λ o le lt. sym (same o (omega (arith, lt, within))) ∙ g.brings o le lt;
}

-- what is kept and begins where the run ends is taken off: the run grows by it
pub one-taken-off : (F : ℕ → Option Source) (m n : ℕ → Option Interval) (e : ℕ) (y : Interval) → AreKept e F m
    → m e ≡ Some y → n e ≡ None → ((q : ℕ) → (q ≡ e → ⊥) → n q ≡ m q)
    → AreKept y.upto F n × IsGrowth F e y.upto (y ∷ [])
one-taken-off F m n e y h first gone other =
    let is = h.placed e y first in (
      kept-less F m n e y h first gone other,
      growth-push F e e [] y (growth-none F e) is.keyed is.interval (next-brought F m n e y h first gone other),
    )

-- one growth after the other
pub growth-then : (F : ℕ → Option Source) (low middle high : ℕ) (run : List Interval) (y : Interval)
    → IsGrowth F low middle run → IsGrowth F middle high (y ∷ []) → IsGrowth F low high (run ++ y ∷ [])
growth-then F low middle high run y g h =
    let (begins, is, _) = h.follows in
    subst (λ (n : ℕ). IsGrowth F low n (run ++ y ∷ [])) h.reaches
    (growth-push F low middle run y g begins is
    (λ o le lt. h.brings o le (omega (arith, lt, h.reaches)) ∙ at-in y [] o (omega (arith, begins, le)) lt))

-- a growth covers what it reaches, and stays where offsets count
pub covered-more : (F : ℕ → Option Source) (low high : ℕ) (run : List Interval) → IsGrowth F low high run
    → ((o : ℕ) → o < low → IsSome (F o)) → (o : ℕ) → o < high → IsSome (F o)
covered-more F low high run g covered o lt =
    by_lt o low
    (λ _ before. covered o before)
    (λ _ after.
    rw (g.brings o after lt) (run-covers low run o g.follows after (omega (arith, lt, g.reaches))))

run-within : (low : ℕ) (run : List Interval) → Follows low run → low ≤ end_of_offsets → run_end low run ≤ end_of_offsets
run-within low [] f le = le
run-within low (x ∷ xs) f le = run-within x.upto xs f.2 f.1.counts

pub growth-within : (F : ℕ → Option Source) (low high : ℕ) (run : List Interval) → IsGrowth F low high run
    → low ≤ end_of_offsets → high ≤ end_of_offsets
growth-within F low high run g le = omega (arith, run-within low run g.follows le, g.reaches)

-- so far the sources bring a byte at each offset
pub run-so-far : {K : Type 0} (F G : ℕ → Option Source) (flow : SideFlow K) (high : ℕ) (run : List Interval)
    → IsSideFlow F flow → ((o : ℕ) → IsSome (F o) → IsSome (G o)) → IsGrowth G flow.end high run → IsRun G high
run-so-far F G flow high run h some g = record {
  within = growth-within G flow.end high run g h.run.within;
  covered = covered-more G flow.end high run g (λ o lt. some o (h.run.covered o lt));
}

pub with-interval : (F : ℕ → Option Source) (x : Interval) (o : ℕ) → IsSome (F o) → IsSome (with_interval F x o)
with-interval F x o some = rw (or-left (F o) (at (x ∷ []) o) some) some

-- nothing is kept
abbrev pub IsNoneKept : (ℕ → Option Interval) → Type 0
IsNoneKept m = (k : ℕ) → m k ≡ None

-- what each of many makes of a call that went well
pub on-ok-each : {A E X : Type 0} (P Q : X → Type 0) (r : Result A E) → ((x : X) → P x → OnOk r (Q x))
    → OnOk r ((x : X) → P x → Q x)
on-ok-each P Q (Ok v) h = λ x p. h x p
on-ok-each P Q (Err v) h = tt

-- a clause of a call that went well
pub on-ok : {A E P Q : Type 0} (r : Result A E) → OnOk r P → (P → Q) → OnOk r Q
on-ok (Ok v) h f = f h
on-ok (Err v) h f = tt

-- from any offset on, where nothing is brought
none-kept-is : (F : ℕ → Option Source) (e : ℕ) (m : ℕ → Option Interval) → IsNoneKept m
    → ((o : ℕ) → e ≤ o → o < end_of_offsets → F o ≡ None) → AreKept e F m
none-kept-is F e m none nothing = record {
  placed = λ k y at-k. absurd (none-some y (sym (none k) ∙ at-k));
  apart = λ k l y z at-k at-l lt. absurd (none-some y (sym (none k) ∙ at-k));
  brought = λ o k y held. absurd (none-some y (sym (none k) ∙ held.is_kept));
  complete = λ o le counts some. absurd (false≢true (rw (nothing o le counts) at some));
}

-- so nothing is there past the run
nothing-past : (F : ℕ → Option Source) (e : ℕ) (m : ℕ → Option Interval) → AreKept e F m → IsNoneKept m
    → (o : ℕ) → e ≤ o → o < end_of_offsets → F o ≡ None
nothing-past F e m h none o le counts =
    not-held e F m o h le counts (λ (k, y, held). none-some y (sym (none k) ∙ held.is_kept))

module _ {K : Type 0} where
  no-entries : (es : List (ℕ × Piece K)) → length es ≡ 0 → es ≡ []
  no-entries [] h = refl
  no-entries (e ∷ es) h = absurd (omega (arith, h))

  pub none-kept : (m : BTreeMap ℕ (Piece K)) → length m.entries ≡ 0 → IsNoneKept (kept_at m)
  none-kept m e k = rw (no-entries m.entries e) refl

  pub none-held : (holds : Interval → K → Type 0) (m : BTreeMap ℕ (Piece K)) → length m.entries ≡ 0 → AllHold holds m
  none-held holds m e k p at-k =
      let none : get nat_cmp m k ≡ None = rw (no-entries m.entries e) refl in absurd (none-some p (sym none ∙ at-k))

  pub at-some : (m : BTreeMap ℕ (Piece K)) (k : ℕ) (x : Interval) → kept_at m k ≡ Some x → IsSome (get nat_cmp m k)
  at-some m k x h =
      by_option (get nat_cmp m k) (λ e. absurd (none-some x (sym (rw e refl) ∙ h))) (λ p e. rw e refl)

  -- what is kept, by its interval
  pub kept-is : (m : BTreeMap ℕ (Piece K)) (k : ℕ) (p : Option (Piece K)) → get nat_cmp m k ≡ p
      → kept_at m k ≡ option_map (λ (p : Piece K). p.interval) p
  kept-is m k p e = ap (option_map (λ (p : Piece K). p.interval)) e

  pub intervals-push : (run : List (Piece K)) (p : Piece K)
      → intervals (run ++ p ∷ []) ≡ intervals run ++ p.interval ∷ []
  intervals-push run p = map-append (λ (p : Piece K). p.interval) run (p ∷ [])

  pub intervals-length : (run : List (Piece K)) → length (intervals run) ≡ length run
  intervals-length run = length-map run (λ (p : Piece K). p.interval)

  -- before any segment
  pub starts : (flow : SideFlow K) → flow.end ≡ 0 → length flow.kept.entries ≡ 0 → IsSideFlow (λ _. None) flow
  starts flow at-0 e = record {
    run = record {
      within = omega (arith, at-0);
      covered = λ o lt. absurd (omega (arith, at-0, lt));
      longest = λ _. refl;
    };
    kept = none-kept-is (λ _. None) flow.end (kept_at flow.kept) (none-kept flow.kept e) (λ o le counts. refl);
  }

  -- a gap where something is kept
  pub gap-none : (F : ℕ → Option Source) (flow : SideFlow K) → IsSideFlow F flow → length flow.kept.entries ≡ 0
      → IsGap F flow.end None
  gap-none F flow h empty o past counts =
      nothing-past F flow.end (kept_at flow.kept) h.kept (none-kept flow.kept empty) o (omega (arith, past)) counts

  first-in : (es : List (ℕ × Piece K)) → (length es ≡ 0 → ⊥)
      → (k : ℕ) × (p : Piece K) × (lookup (is_at (nat_cmp k)) es ≡ Some p)
  first-in [] h = absurd (h refl)
  first-in (e ∷ es) h = (e.0, e.1, rw (sym (nat_cmp_is e.0 e.0 Equal refl)) refl)

  pub gap-some : (F : ℕ → Option Source) (flow : SideFlow K) → IsSideFlow F flow → (length flow.kept.entries ≡ 0 → ⊥)
      → IsGap F flow.end (Some flow.end)
  gap-some F flow h some =
      let (k, p, found) = first-in flow.kept.entries some in
      let x = p.interval in
      let at-k : kept_at flow.kept k ≡ Some x = rw found refl in
      let is = h.kept.placed k x at-k in
      let counts : k < end_of_offsets = omega (arith, is.keyed, is.interval.some, is.interval.counts) in
      let there : IsSome (F k) =
      rw (h.kept.brought k k x (record {
        is_kept = at-k;
        from = omega arith;
        upto = omega (arith, is.keyed, is.interval.some);
      })) refl in
      elim (cases_eq k flow.end) [
        | inl same ↦
            absurd (false≢true (rw (ap F same ∙ h.run.longest (omega (arith, counts, same))) at there))
        | inr apart ↦ (refl, (k, omega (arith, apart, is.behind), counts, there))
      ]

  -- what is kept of the intervals, when one comes and when one goes
  module _ (holds : Interval → K → Type 0) (m n : BTreeMap ℕ (Piece K)) (e : ℕ) (h : AllHold holds m)
      (other : (q : ℕ) → (q ≡ e → ⊥) → get nat_cmp n q ≡ get nat_cmp m q) where
    pub held-more : (p : Piece K) → get nat_cmp n e ≡ Some p → holds p.interval p.content → AllHold holds n
    held-more p here is k q at-k =
        elim (cases_eq k e) [
          | inl same ↦
              let there : get nat_cmp n e ≡ Some q = rw same at at-k in
              let one : Some p ≡ Some q = sym here ∙ there in
              let both : p ≡ q = cc in
              subst (λ (r : Piece K). holds r.interval r.content) both is
          | inr apart ↦ h k q (sym (other k apart) ∙ at-k)
        ]

    pub held-less : get nat_cmp n e ≡ None → AllHold holds n
    held-less gone k q at-k =
        elim (cases_eq k e) [
          | inl same ↦
              let there : get nat_cmp n e ≡ Some q = rw same at at-k in absurd (none-some q (sym gone ∙ there))
          | inr apart ↦ h k q (sym (other k apart) ∙ at-k)
        ]

-- pieces by index
module _ {K : Type 0} (run : List (Piece K)) (k : ℕ) (d : Piece K) (lt : k < length run) where
  pub inside-at : (P : Interval → Type 0) → All P (intervals run) → P (get_or run k d).interval
  inside-at P h =
      subst P (get_or-map (λ (p : Piece K). p.interval) run k d d.interval lt)
      (All-get_or P (intervals run) k d.interval (omega (arith, lt, length-map run (λ (p : Piece K). p.interval))) h)

  pub intervals-more : intervals (take (k + 1) run) ≡ intervals (take k run) ++ (get_or run k d).interval ∷ []
  intervals-more =
      ap (map (λ (p : Piece K). p.interval)) (take_more run k d lt)
      ∙ map-append (λ (p : Piece K). p.interval) (take k run) (get_or run k d ∷ [])
