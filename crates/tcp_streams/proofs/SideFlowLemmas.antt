-- On what a flow's stage keeps: what an interval adds to it, and what leaves it.
use Rattle.tcp_streams.proofs.Words.{◌≡◌, ℕ, ◌<◌, ◌≤◌, ◌⊎◌, inl, inr, [], ◌∷◌, Option, None, Some, refl, sym}
use Rattle.tcp_streams.proofs.Words.{◌∙◌, arith, ◌+◌, ◌-◌, IsSome, option_or, nat_lt, if◌then◌else◌, nat_tests}
use Rattle.tcp_streams.proofs.Words.{none-some, false≢true, false, lt-ltb, le-ltb, Source, end_of_offsets, IsInterval}
use Rattle.tcp_streams.proofs.Words.{at}
use Rattle.tcp_streams.proofs.Words.{source_in, Interval}
use Rattle.tcp_streams.specs.{Flow.IsLongestRun, code.Interval.part_of}
use Rattle.tcp_streams.specs.code.SideFlow.{AreKept, IsHeld, IsHeldAt}
use Rattle.tcp_streams.specs.code.SideFlow.{with_interval}
use Rattle.tcp_streams.proofs.{Growth.or-left, IntervalLemmas.at-in, IntervalLemmas.at-past}
use Rattle.tcp_streams.proofs.Lists.{by_lt, by_option}
use Rattle.std.specs.{Cmp.nat_cmp_is, Ordering.is_eq, Ordering.is_gt, Ordering.is_lt}
use Rattle.std.specs.{Ordering.nat_cmp, declared.cmp.Ordering.TheVariants.Equal}
use Rattle.std.specs.declared.cmp.Ordering.TheVariants.{Greater, Less}
use Rattle.std.proofs.{Common.subst, lemmas.Bool.cases_eq}

pub or-none : (p : Option Source) → option_or p None ≡ p
or-none None = refl
or-none (Some x) = refl

pub at-before : (x : Interval) (o : ℕ) → o < x.from → at (x ∷ []) o ≡ None
at-before x o lt = grind (arith, nat_tests)

-- one interval is kept under a first offset
same-kept : (m : ℕ → Option Interval) (k l : ℕ) (x y : Interval) → m k ≡ Some x → m l ≡ Some y → k ≡ l
    → x ≡ y
same-kept m k l x y h j e = let moved = rw e at h in let both : Some x ≡ Some y = sym moved ∙ j in cc

pub kept-same : (low : ℕ) (F G : ℕ → Option Source) (m : ℕ → Option Interval) → ((o : ℕ) → F o ≡ G o)
    → AreKept low F m → AreKept low G m
kept-same low F G m same h = subst (λ (H : ℕ → Option Source). AreKept low H m) (λ i. λ o. same o i) h

pub kept-unchanged : (low : ℕ) (F : ℕ → Option Source) (m n : ℕ → Option Interval) → ((k : ℕ) → n k ≡ m k)
    → AreKept low F m → AreKept low F n
kept-unchanged low F m n same h =
    record {
      placed = λ k x at-k. h.placed k x (sym (same k) ∙ at-k);
      apart = λ k l x y at-k at-l lt. h.apart k l x y (sym (same k) ∙ at-k) (sym (same l) ∙ at-l) lt;
      brought = λ o k x held.
          h.brought o k x (record { is_kept = sym (same k) ∙ held.is_kept; from = held.from; upto = held.upto });
      complete = λ o le counts some.
          let (k, x, held) = h.complete o le counts some in
          (k, x, record { is_kept = same k ∙ held.is_kept; from = held.from; upto = held.upto });
    }

-- what nothing holds is brought by none
pub not-held : (low : ℕ) (F : ℕ → Option Source) (m : ℕ → Option Interval) (o : ℕ) → AreKept low F m → low ≤ o
    → o < end_of_offsets → (IsHeld m o → ⊥) → F o ≡ None
not-held low F m o h le counts free =
    by_option (F o) (λ e. e) (λ s e. absurd (free (h.complete o le counts (rw e refl))))

-- where nothing that begins at or before an offset reaches past it, and nothing begins up to another, nothing is held
pub free-between : (m : ℕ → Option Interval) (low high : ℕ)
    → ((k : ℕ) (x : Interval) → m k ≡ Some x → k ≤ low → x.upto ≤ low)
    → ((k : ℕ) (x : Interval) → m k ≡ Some x → low < k → k < high → ⊥)
    → (o : ℕ) → low ≤ o → o < high → IsHeld m o → ⊥
free-between m low high before after o le lt (k, x, held) =
    by_lt low k
    (λ _ past. after k x held.is_kept past (omega (arith, held.from, lt)))
    (λ _ back. absurd (omega (arith, before k x held.is_kept back, held.upto, le)))

-- where the last interval that begins at or before an offset ends, all others have ended
pub last-ends : (low : ℕ) (F : ℕ → Option Source) (m : ℕ → Option Interval) (o k l : ℕ) (x y : Interval)
    → AreKept low F m → m k ≡ Some x → m l ≡ Some y → k ≤ l → l ≤ o → y.upto ≤ o → x.upto ≤ o
last-ends low F m o k l x y h at-k at-l le within ends =
    elim (cases_eq k l) [
      | inl same ↦ rw (same-kept m k l x y at-k at-l same) ends
      | inr apart ↦ omega (arith, within, h.apart k l x y at-k at-l (omega (arith, le, apart)))
    ]

-- the order of keys
pub not-lt : (a b : ℕ) → is_lt (nat_cmp a b) ≡ false → b ≤ a
not-lt a b h =
    by_lt a b (λ _ lt. absurd (false≢true (sym h ∙ (rw (sym (nat_cmp_is a b Less lt)) refl)))) (λ _ le. le)

pub not-gt : (a b : ℕ) → is_gt (nat_cmp a b) ≡ false → a ≤ b
not-gt a b h =
    by_lt b a (λ _ lt. absurd (false≢true (sym h ∙ (rw (sym (nat_cmp_is a b Greater lt)) refl)))) (λ _ le. le)

pub le-gt : (a b : ℕ) → a ≤ b → is_gt (nat_cmp a b) ≡ false
le-gt a b le =
    by_lt a b
    (λ _ lt. rw (sym (nat_cmp_is a b Less lt)) refl)
    (λ _ ge. rw (sym (nat_cmp_is a b Equal (omega (arith, le, ge)))) refl)

pub ne-eq : (a b : ℕ) → (b ≡ a → ⊥) → is_eq (nat_cmp a b) ≡ false
ne-eq a b ne =
    by_lt a b
    (λ _ lt. rw (sym (nat_cmp_is a b Less lt)) refl)
    (λ _ ge. rw (sym (nat_cmp_is a b Greater (let lt : b < a = omega (arith, ge, ne) in lt))) refl)

-- the sources, and below n what the interval brings where they have none
abbrev pub so_far : (ℕ → Option Source) → Interval → ℕ → ℕ → Option Source
so_far F x n o = option_or (F o) (if nat_lt o n then at (x ∷ []) o else None)

module _ (F : ℕ → Option Source) (x : Interval) where
  pub so_far-last : (n : ℕ) → x.upto ≤ n → (o : ℕ) → so_far F x n o ≡ with_interval F x o
  so_far-last n le o =
      by_lt o n
      (λ e _. rw e refl)
      (λ e past. rw (e, at-past x [] o (omega (arith, le, past))) refl)

  below : (n o : ℕ) → o < n → so_far F x n o ≡ option_or (F o) (at (x ∷ []) o)
  below n o lt = rw (lt-ltb o n lt) refl

  above : (n o : ℕ) → n ≤ o → so_far F x n o ≡ F o
  above n o le = rw (le-ltb o n le) (or-none (F o))

  -- along an interval that is kept nothing is added
  pub so_far-held : (low e k : ℕ) (m : ℕ → Option Interval) (y : Interval) → AreKept e (so_far F x low) m
      → IsHeldAt m low k y → (o : ℕ) → so_far F x low o ≡ so_far F x y.upto o
  so_far-held low e k m y h held o =
      by_lt o low
      (λ _ lt. below low o lt ∙ sym (below y.upto o (omega (arith, lt, held.upto))))
      (λ _ ge. by_lt o y.upto
      (λ _ lt.
      let is : so_far F x low o ≡ Some (source_in y o) =
      h.brought o k y (record { is_kept = held.is_kept; from = omega (arith, held.from, ge); upto = lt }) in
      let there : F o ≡ Some (source_in y o) = sym (above low o ge) ∙ is in
      above low o ge ∙ sym (or-left (F o) (at (x ∷ []) o) (rw there refl)) ∙ sym (below y.upto o lt))
      (λ _ past. above low o ge ∙ sym (above y.upto o past)))

  pub step-held : (e low upto : ℕ) (m : ℕ → Option Interval) → AreKept e (so_far F x low) m
      → ((k : ℕ) × (y : Interval) × IsHeldAt m low k y × (y.upto ≡ upto)) → AreKept e (so_far F x upto) m
  step-held e low upto m h (k, y, held, ends) =
      subst (λ (n : ℕ). AreKept e (so_far F x n) m) ends
      (kept-same e (so_far F x low) (so_far F x y.upto) m (so_far-held low e k m y h held) h)

  -- a part of the interval where nothing is held
  module _ (m n : ℕ → Option Interval) (e low high : ℕ) (h : AreKept e (so_far F x low) m) (is : IsInterval x)
      (behind : e ≤ low) (begins : x.from ≤ low) (order : low < high) (within : high ≤ x.upto)
      (free : (o : ℕ) → low ≤ o → o < high → IsHeld m o → ⊥) (here : n low ≡ Some (part_of x low high))
      (other : (q : ℕ) → (q ≡ low → ⊥) → n q ≡ m q) where
    new-brought : (o : ℕ) → low ≤ o → o < high → so_far F x high o ≡ Some (source_in (part_of x low high) o)
    new-brought o le lt =
        let none : F o ≡ None =
        sym (above low o le)
        ∙ not-held e (so_far F x low) m o h (omega (arith, behind, le)) (omega (arith, lt, within, is.counts))
        (free o le lt) in
        let index : x.index + (o - x.from) ≡ x.index + (low - x.from) + (o - low) = omega (arith, begins, le) in
        below high o lt
        ∙ rw (none, at-in x [] o (omega (arith, begins, le)) (omega (arith, lt, within)))
        (λ i. Some (record { rec = x.rec; nanos = x.nanos; index = index i }))

    old-brought : (o : ℕ) → (o < low) ⊎ (high ≤ o) → so_far F x high o ≡ so_far F x low o
    old-brought o (inl lt) = below high o (omega (arith, lt, order)) ∙ sym (below low o lt)
    old-brought o (inr ge) = above high o ge ∙ sym (above low o (omega (arith, ge, order)))

    -- what is kept then is the part, or was kept
    which : (k : ℕ) (y : Interval) → n k ≡ Some y
        → ((k ≡ low) × (y ≡ part_of x low high)) ⊎ ((k ≡ low → ⊥) × (m k ≡ Some y))
    which k y at-k =
        elim (cases_eq k low) [
          | inl same ↦ inl (same, same-kept n k low y (part_of x low high) at-k here same)
          | inr apart ↦ inr (apart, sym (other k apart) ∙ at-k)
        ]

    -- an old one does not reach the part
    outside : (o k : ℕ) (y : Interval) → IsHeldAt m o k y → (o < low) ⊎ (high ≤ o)
    outside o k y held =
        by_lt o low
        (λ _ lt. inl lt)
        (λ _ ge. by_lt o high (λ _ lt. absurd (free o ge lt (k, y, held))) (λ _ past. inr past))

    still : (o : ℕ) → IsHeld m o → IsHeld n o
    still o (k, y, held) =
        let some = h.placed k y held.is_kept in
        elim (cases_eq k low) [
          | inl same ↦
              absurd (free low (omega arith) order (
                k,
                y,
                record {
                  is_kept = held.is_kept;
                  from = omega (arith, same);
                  upto = omega (arith, same, some.keyed, some.interval.some);
                },
              ))
          | inr apart ↦ (k, y, record { is_kept = other k apart ∙ held.is_kept; from = held.from; upto = held.upto })
        ]

    pub kept-more : AreKept e (so_far F x high) n
    kept-more = record {
      placed = λ k y at-k.
          elim (which k y at-k) [
            | inl (same, is-part) ↦ rw (same, is-part) (record {
              interval = record {
                some = order;
                counts = omega (arith, within, is.counts);
                room = omega (arith, is.room, begins, order, within);
              };
              keyed = refl;
              behind = behind;
            })
            | inr (_, old) ↦ h.placed k y old
          ];
      apart = λ k l y z at-k at-l lt.
          elim (which k y at-k) [
            | inl (same, is-part) ↦
                elim (which l z at-l) [
                  | inl (same', _) ↦ absurd (omega (arith, lt, same, same'))
                  | inr (_, old) ↦
                      let some = h.placed l z old in
                      rw is-part (by_lt l high
                      (λ _ inside. absurd (free l (omega (arith, lt, same)) inside (
                        l,
                        z,
                        record {
                          is_kept = old;
                          from = omega arith;
                          upto = omega (arith, some.keyed, some.interval.some);
                        },
                      )))
                      (λ _ past. past))
                ]
            | inr (_, old) ↦
                elim (which l z at-l) [
                  | inl (same', _) ↦
                      by_lt low y.upto
                      (λ _ over. absurd (free low (omega arith) order (
                        k,
                        y,
                        record {
                          is_kept = old;
                          from = omega (arith, lt, same');
                          upto = over;
                        },
                      )))
                      (λ _ le. omega (arith, le, same'))
                  | inr (_, old') ↦ h.apart k l y z old old' lt
                ]
          ];
      brought = λ o k y held.
          elim (which k y held.is_kept) [
            | inl (same, is-part) ↦
                rw is-part (new-brought o (omega (arith, held.from, same)) (let upto = held.upto in rw is-part at upto))
            | inr (_, old) ↦
                let held' : IsHeldAt m o k y = record { is_kept = old; from = held.from; upto = held.upto } in
                old-brought o (outside o k y held') ∙ h.brought o k y held'
          ];
      complete = λ o le counts some.
          let old : ((o < low) ⊎ (high ≤ o)) → IsHeld n o =
          (λ out. still o (h.complete o le counts (rw (old-brought o out) at some))) in
          by_lt o low
          (λ _ lt. old (inl lt))
          (λ _ ge. by_lt o high
          (λ _ lt. (low, part_of x low high, record { is_kept = here; from = ge; upto = lt }))
          (λ _ past. old (inr past)));
    }

-- what begins where the run ends leaves
module _ (F : ℕ → Option Source) (m n : ℕ → Option Interval) (e : ℕ) (y : Interval) (h : AreKept e F m)
    (first : m e ≡ Some y) (gone : n e ≡ None)
    (other : (q : ℕ) → (q ≡ e → ⊥) → n q ≡ m q) where
  was : (k : ℕ) (z : Interval) → n k ≡ Some z → (k ≡ e → ⊥) × (m k ≡ Some z)
  was k z at-k =
      elim (cases_eq k e) [
        | inl same ↦ absurd (none-some z (sym gone ∙ (rw same at at-k)))
        | inr apart ↦ (apart, sym (other k apart) ∙ at-k)
      ]

  pub kept-less : AreKept y.upto F n
  kept-less = record {
    placed = λ k z at-k.
        let (apart, old) = was k z at-k in
        let is = h.placed k z old in
        let after : e < k = omega (arith, is.behind, apart) in
        record { interval = is.interval; keyed = is.keyed; behind = h.apart e k y z first old after };
    apart = λ k l z w at-k at-l lt. h.apart k l z w (was k z at-k).1 (was l w at-l).1 lt;
    brought = λ o k z held.
        h.brought o k z (record { is_kept = (was k z held.is_kept).1; from = held.from; upto = held.upto });
    complete = λ o le counts some.
        let is = h.placed e y first in
        let (k, z, held) = h.complete o (omega (arith, le, is.keyed, is.interval.some)) counts some in
        elim (cases_eq k e) [
          | inl same ↦
              let one : z ≡ y = same-kept m k e z y held.is_kept first same in
              absurd (omega (arith, le, (let upto = held.upto in rw one at upto)))
          | inr apart ↦ (k, z, record { is_kept = other k apart ∙ held.is_kept; from = held.from; upto = held.upto })
        ];
  }

  -- and it is what the sources bring next
  pub next-brought : (o : ℕ) → e ≤ o → o < y.upto → F o ≡ Some (source_in y o)
  next-brought o le lt = h.brought o e y (record { is_kept = first; from = le; upto = lt })

-- nothing is kept that begins where the run ends: so it is the longest
pub longest-run : (F : ℕ → Option Source) (m : ℕ → Option Interval) (e : ℕ) → AreKept e F m → m e ≡ None
    → e ≤ end_of_offsets → ((o : ℕ) → o < e → IsSome (F o)) → IsLongestRun F e
longest-run F m e h none within covered = record {
  within = within;
  covered = covered;
  longest = λ counts. not-held e F m e h (omega arith) counts (λ (k, y, held).
      let is = h.placed k y held.is_kept in
      let same : k ≡ e = omega (arith, is.behind, held.from) in
      let here = held.is_kept in
      absurd (none-some y (sym none ∙ (rw same at here))));
}
