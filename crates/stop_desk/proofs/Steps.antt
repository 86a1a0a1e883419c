-- How the parts of the rule go over a step, that each step of a pass keeps the rule, and what its play says.
use Rattle.stop_desk.proofs.Words.{Allows, Joins, Knows, List, Opening, PassState, Sees, Splits, State, [], ap, arith}
use Rattle.stop_desk.proofs.Words.{cases_lt, get_elem?, get_or, get_or-set_other, get_or-set_same, if◌then◌else◌, inl}
use Rattle.stop_desk.proofs.Words.{inr, is_mark, is_number, joined, keeps, length, length-append, length-set, min}
use Rattle.stop_desk.proofs.Words.{nat_lt, nat_tests, none, past_places, refl, set, some, step, subst, times, weigh, ℕ}
use Rattle.stop_desk.proofs.Words.{ℕ_discrete, ◌%◌, ◌++◌, ◌+◌, ◌-◌, ◌<◌, ◌^◌, ◌∙◌, ◌∷◌, ◌≡◌, ◌≤◌}
use Rattle.atomic_table.proofs.Lists.{at_set, at_snoc, set_again}
use Rattle.std.proofs.lemmas.List.{set-get_or}
use Rattle.stop_desk.specs.code.Plays.{Lowers, drawn_by, given_part, kept_part, learned_by, lowered_by, seen_by, spent}
use Rattle.stop_desk.specs.code.Rule.{Fits, Holds, Kept, allowance_in, drawn_in, knows, lowered_in, seen_in, share}
use Rattle.stop_desk.proofs.Weights.{weigh-set, weigh-snoc, weigh-append, weigh-part, seen-cases}

pub fits-set : (opened : List ℕ) (views : List Knows) (id : ℕ) (w : Knows) → Fits opened w
    → ((j : ℕ) (u : Knows) → get_elem? views j ≡ some u → Fits opened u)
    → (j : ℕ) (u : Knows) → get_elem? (set views id w) j ≡ some u → Fits opened u
fits-set opened views id w new all j u at = grind (arith, at_set views id j w u at, all j u, new)

pub fits-snoc : (opened : List ℕ) (views : List Knows) (w : Knows) → Fits opened w
    → ((j : ℕ) (u : Knows) → get_elem? views j ≡ some u → Fits opened u)
    → (j : ℕ) (u : Knows) → get_elem? (views ++ w ∷ []) j ≡ some u → Fits opened u
fits-snoc opened views w new all j u at = grind (arith, at_snoc views w u j at, all j u, new)

-- a step of the pass `id`, which knew v
module _ (o : Opening) (s : State (Unit {0}) Knows) (id : ℕ) (v : Knows) (h : Holds o s)
    (at : get_elem? s.views id ≡ some v) where
  abbrev opened : List ℕ
  opened = o.words.items

  -- the views after it, where the pass then knows w
  abbrev after : Knows → List Knows
  after w = set s.views id w

  changed : (f : Knows → ℕ) (w : Knows) → weigh f (after w) + f v ≡ weigh f s.views + f w
  changed f w = weigh-set f s.views id v w at

  part : (f : Knows → ℕ) → f v ≤ weigh f s.views
  part f = weigh-part f s.views id v at

  fits : (w : Knows) → w.opened ≡ v.opened → 0 < share v → 0 < share w → (j : ℕ) (u : Knows)
      → get_elem? (after w) j ≡ some u → Fits opened u
  fits w e some_share some_share' = fits-set opened s.views id w (grind (arith, h.2 id v at)) h.2

  -- a draw
  abbrev drew : Knows
  drew = knows v.opened (v.allowance - 1) (v.drawn ++ get_or s.words 0 0 ∷ []) v.seen v.lowered

  draw-kept : 0 < v.allowance → Kept o.whole opened (set s.words 0 ((get_or s.words 0 0 + 1) % 2 ^ 64)) (after drew)
  draw-kept left =
      let n : ℕ = get_or s.words 0 0 in
      let words : List ℕ = set s.words 0 ((n + 1) % 18446744073709551616) in
      let wraps : (n + 1) % 18446744073709551616 ≡ n + 1
      = omega (arith, h.0.whole_is, h.0.in_word, part allowance_in) in
      let next : get_or words 0 0 ≡ n + 1 = get_or-set_same s.words 0 _ 0 h.0.some_word ∙ wraps in
      let more = length-append v.drawn (n ∷ []) in
      let long : length words ≡ length s.words = length-set s.words 0 _ in
      let other : (c : ℕ) → get_or words (c + 1) 0 ≡ get_or s.words (c + 1) 0
      = λ c. get_or-set_other s.words 0 (c + 1) _ 0 (λ e. omega arith) in (
        grind (arith, nat_tests, h.0, changed, λ (x : ℕ). weigh-snoc (is_number x) v.drawn n),
        record {
          wide = long ∙ h.1.wide;
          below_opening = grind (arith, other, h.1.below_opening);
          below_lowered = grind (arith, other, changed, h.1.below_lowered);
          below_seen = grind (arith, other, changed, h.1.below_seen);
          reached = λ c. rw (other c) (grind (arith, changed, h.1.reached c));
        },
        fits drew refl (omega arith) (omega arith),
      )

  draw-fresh : times (get_or s.words 0 0) v.drawn ≡ 0
  draw-fresh = grind (arith, nat_tests, part (drawn_in (get_or s.words 0 0)), h.0.each_once (get_or s.words 0 0))

  -- a look at the stop of connection c
  abbrev saw : (c : ℕ) → Knows
  saw c =
      knows v.opened v.allowance v.drawn
      (if nat_lt (get_or s.words (c + 1) 0) past_places then v.seen ++ (c, get_or s.words (c + 1) 0) ∷ [] else v.seen)
      v.lowered

  -- what the pass knew of connection c is not below the stop word
  sees-below : (c : ℕ) (me : PassState) → 0 < share v → Sees c (v, me.1) (get_or s.words (c + 1) 0) (saw c, me.1)
  sees-below c me some_share =
      let opened = (h.2 id v at).knowing some_share in
      grind (arith, h.1, λ (p : ℕ). part (lowered_in c p), λ (p : ℕ). part (seen_in c p))

  look-kept : (c : ℕ) → 0 < share v → Kept o.whole opened s.words (after (saw c))
  look-kept c some_share =
      let n : ℕ = get_or s.words (c + 1) 0 in
      let cases = λ (c' p : ℕ). seen-cases (nat_lt n past_places) c' p c n v.seen refl in
      (grind (arith, h.0, changed), grind (arith, h.1, changed, cases), fits (saw c) refl some_share some_share)

  -- a lowering of the stop of connection c to p
  abbrev lowered : (c p : ℕ) → Knows
  lowered c p = knows v.opened v.allowance v.drawn v.seen (v.lowered ++ (c, p) ∷ [])

  abbrev fallen : (c p : ℕ) → List ℕ
  fallen c p = set s.words (c + 1) (min (get_or s.words (c + 1) 0) p)

  lower-kept : (c p : ℕ) → 0 < share v → c + 1 < length v.opened → p < past_places →
      Kept o.whole opened (fallen c p) (after (lowered c p))
  lower-kept c p some_share there place =
      let n : ℕ = get_or s.words (c + 1) 0 in
      let w : Knows = lowered c p in
      let words : List ℕ = fallen c p in
      let long : length words ≡ length s.words = length-set s.words (c + 1) (min n p) in
      let inside : c + 1 < length s.words = omega (arith, ap length ((h.2 id v at).knowing some_share), h.1.wide) in
      let here : get_or words (c + 1) 0 ≡ min n p = get_or-set_same s.words (c + 1) (min n p) 0 inside in
      let other : (c' : ℕ) → (c' ≡ c → ⊥) → get_or words (c' + 1) 0 ≡ get_or s.words (c' + 1) 0
      = λ c' apart. get_or-set_other s.words (c + 1) (c' + 1) (min n p) 0 (λ e. apart (omega arith)) in
      let falls : (c' : ℕ) → get_or words (c' + 1) 0 ≤ get_or s.words (c' + 1) 0
      = λ c'. grind (arith, nat_tests, here, other c') in
      let marked = λ (c' p' : ℕ). weigh-snoc (is_mark c' p') v.lowered (c, p) in (
        grind (arith, h.0, changed, get_or-set_other s.words (c + 1) 0 (min n p) 0 (λ e. omega arith)),
        record {
          wide = long ∙ h.1.wide;
          below_opening = grind (arith, falls, h.1.below_opening);
          below_lowered = λ c' p' there.
              grind (arith, nat_tests, changed, marked c' p', falls c', here, h.1.below_lowered c' p');
          below_seen = λ c' p' there. grind (arith, changed, marked c' p', falls c', h.1.below_seen c' p');
          reached = λ c'. elim (ℕ_discrete c' c) [
            | yes is ↦ rw is (elim (cases_lt p n) [
              | inl falls ↦ (let low : get_or words (c + 1) 0 ≡ p = omega arith in
                  rw low (inr (grind (arith, nat_tests, changed, marked c p))))
              | inr stays ↦ (let low : get_or words (c + 1) 0 ≡ n = omega arith in
                  rw low (grind (arith, changed, marked c n, h.1.reached c)))
            ])
            | no apart ↦ rw (other c' apart) (grind (arith, changed, marked c', h.1.reached c'))
          ];
        },
        fits w refl some_share some_share,
      )

  -- two passes made of one
  split-kept : (amount : ℕ) → 0 < amount → amount < v.allowance →
      Kept o.whole opened s.words (after (kept_part amount v) ++ given_part amount v ∷ [])
  split-kept amount some_part less =
      let left : Knows = kept_part amount v in
      let right : Knows = given_part amount v in
      let more = λ (f : Knows → ℕ). weigh-snoc f (after left) right in (
        grind (arith, h.0, changed, more),
        grind (arith, h.1, changed, more),
        fits-snoc opened (after left) right (grind (arith, h.2 id v at)) (fits left refl (omega arith) (omega arith)),
      )

  -- and one of two
  join-kept : (other : ℕ) (w : Knows) → get_elem? (after (joined v w)) other ≡ some w → 0 < share v →
      Kept o.whole opened s.words (set (after (joined v w)) other spent)
  join-kept other w at' some_share =
      let both : Knows = joined v w in
      let views : List Knows = set (after both) other spent in
      let sum : (f : Knows → ℕ) → weigh f views + f v + f w ≡ weigh f s.views + f both + f spent
      = λ f. omega (arith, changed f both, weigh-set f (after both) other w spent at') in
      let longer = length-append v.drawn w.drawn in (
        grind (arith, h.0, sum, λ (x : ℕ). weigh-append (is_number x) v.drawn w.drawn),
        grind (arith, h.1, sum, λ (c p : ℕ). weigh-append (is_mark c p)),
        fits-set opened (after both) other spent (grind arith) (fits both refl some_share (omega arith)),
      )

pub draws : (o : Opening) (slots id : ℕ) (me : PassState) → 0 < me.0.allowance
    → Allows (Holds o) slots id me 0 (λ n. (n + 1) % 2 ^ 64) (drawn_by (step slots 0 1 0 none) me)
draws o slots id me left s h _ at _ =
    let drawn = draw-fresh o s id me.0 h at in
    (drew o s id me.0 h at, keeps, tt, draw-kept o s id me.0 h at left, (omega arith, drawn, refl))

pub sees : (o : Opening) (slots id : ℕ) (me : PassState) (c : ℕ) → 0 < share me.0
    → Allows (Holds o) slots id me (c + 1) (λ n. n) (seen_by (step slots (c + 1) 0 0 none) me)
sees o slots id me c some_share s h _ at _ = (
  saw o s id me.0 h at c,
  keeps,
  tt,
  rw (set-get_or s.words (c + 1) 0) (look-kept o s id me.0 h at c some_share),
  (λ c' same. subst (λ k. Sees k me (get_or s.words (c + 1) 0) (saw o s id me.0 h at c, me.1))
      (let e : c + 1 ≡ c' + 1 = same in omega arith) (sees-below o s id me.0 h at c me some_share)),
)

pub lowers : (o : Opening) (slots id : ℕ) (me : PassState) (c p : ℕ) → 0 < share me.0 → c + 1 < length me.0.opened →
    p < past_places → Allows (Holds o) slots id me (c + 1) (λ n. min n p) (lowered_by (step slots (c + 1) p 0 none) me)
lowers o slots id me c p some_share there place s h _ at _ = (
  lowered o s id me.0 h at c p,
  keeps,
  tt,
  lower-kept o s id me.0 h at c p some_share there place,
  (λ c' same. subst (λ k. Lowers k p me (lowered o s id me.0 h at c p, me.1))
      (let e : c + 1 ≡ c' + 1 = same in omega arith) refl),
)

-- a load of word 0 that changes nothing
pub learns : (o : Opening) (slots id : ℕ) (me : PassState)
    → Allows (Holds o) slots id me 0 (λ n. n) (learned_by (step slots 0 0 0 none) me)
learns o slots id me s h _ at _ = (
  me.0,
  keeps,
  tt,
  rw (set-get_or s.words 0 0, set_again s.views id me.0 at) h,
  (omega (arith, h.0.whole_is, h.0.in_word, weigh-part allowance_in s.views id me.0 at), refl),
)

pub splits : (o : Opening) (id amount : ℕ) (v : Knows) → 0 < amount → amount < v.allowance
    → Splits (Holds o) id v (kept_part amount v) (given_part amount v)
splits o id amount v some_part part s h at = split-kept o s id v h at amount some_part part

pub joins : (o : Opening) (id other : ℕ) (v w : Knows) → 0 < share v → Joins (Holds o) id v other w (joined v w) spent
joins o id other v w some_share s h at apart at' = join-kept o s id v h at other w at' some_share
