-- What the fields of a pass and of a desk show, what a pass has after a look, and what the last pass knows.
use Rattle.{atomic_table.specs.Seated.TableId, stop_desk.proofs.Weights.weigh-whole}
use Rattle.stop_desk.proofs.Words.{All, DeskId, Final, IsAtMost, IsLook, IsStop, Knows, List, None, Opening, Option}
use Rattle.stop_desk.proofs.Words.{PassState, PassView, Seen, Sees, IsDeskSettled, Some, [], ap, arith, cases_lt}
use Rattle.stop_desk.proofs.Words.{closed_of, cond_both, get_elem?, get_or, inl, inr}
use Rattle.stop_desk.proofs.Words.{le-ltb, length, lt-ltb, map, marks, nat_lt}
use Rattle.stop_desk.proofs.Words.{once_below, pass_of, past_places, place_at, refl, some, some-injective, some-ne-none}
use Rattle.stop_desk.proofs.Words.{stop_word, suc, sym, times, weigh, zero, ℕ, ◌+◌, ◌<◌, ◌∙◌, ◌∷◌, ◌≡◌, ◌≤◌, ◌⊎◌}
use Rattle.stop_desk.specs.code.Rule.{Holds, allowance_in, drawn_in, draws_in, lowered_in, seen_in, share}
use Rattle.stop_desk.specs.code.Settled.{IsLeastOnDesk}

nothing-drawn : (x : ℕ) (xs : List ℕ) → length xs ≡ 0 → times x xs ≡ 0
nothing-drawn x [] e = refl
nothing-drawn x (y ∷ ys) e = absurd (omega arith)

weigh-share : (views : List Knows) → weigh share views ≡ weigh draws_in views + weigh allowance_in views
weigh-share [] = omega arith
weigh-share (v ∷ vs) = let rest = weigh-share vs in omega arith

pub place_at-place : (n : ℕ) → n < past_places → place_at n ≡ Some n
place_at-place n low = rw (lt-ltb n past_places low) refl

pub place_at-none : (n : ℕ) → past_places ≤ n → place_at n ≡ None
place_at-none n high = rw (le-ltb n past_places high) refl

pub at_most-stop : (n m : ℕ) → n ≤ m → IsAtMost n (place_at m)
at_most-stop n m low = cond_both (nat_lt m past_places) (Some m) None (IsAtMost n) (λ _. low) (λ _. tt)

least-stop : (d : DeskId) (lowered : List (ℕ × ℕ)) (c n : ℕ) → n ≤ get_or d.opened (c + 1) 0 →
    ((p : ℕ) → 0 < marks c p lowered → (n ≤ p) × (p < past_places)) →
    (n ≡ get_or d.opened (c + 1) 0) ⊎ (0 < marks c n lowered) → IsLeastOnDesk d lowered c (place_at n)
least-stop d lowered c n below low reached = elim (cases_lt n past_places) [
  | inl place ↦ rw (place_at-place n place) (
    at_most-stop n (get_or d.opened (c + 1) 0) below,
    λ p there. (low p there).0,
    grind (arith, place_at-place n place, reached),
  )
  | inr past ↦ rw (place_at-none n past) (place_at-none _ (omega arith), grind (arith, low))
]

-- the last pass has all draws, places seen and places lowered, so what the rule says of all views it says of that one
pub closes : (o : Opening) (id : ℕ) (v : Knows) (words : List ℕ) (slots : List (Unit {0})) (d : DeskId) → 0 < share v
    → share v ≡ o.whole → d.opened ≡ o.words.items → Final (Seen (Holds o) id v) words slots
    → (length v.drawn ≡ get_or words 0 0) × IsDeskSettled (closed_of d words v.drawn v.seen v.lowered)
closes o id v words slots d some_share all opened f =
    let s = f.0 in
    let h = f.1.0 in
    let at = f.1.1 in
    let whole : weigh share s.views ≡ share v
    = omega (arith, h.0.whole_is, h.0.lengths, weigh-share s.views) in
    let only = λ (g : Knows → ℕ) (idle : (j : ℕ) (u : Knows) → get_elem? s.views j ≡ some u → share u ≡ 0 → g u ≡ 0).
    weigh-whole share g s.views id v at whole idle in
    let drawn : length v.drawn ≡ get_or s.words 0 0
    = sym (only draws_in (λ j u there none. omega arith)) ∙ h.0.lengths in
    let seen = λ (c p : ℕ). only (seen_in c p) (λ j u there none. ap (marks c p) ((h.2 j u there).idle none).0) in
    let lowered = λ (c p : ℕ). only (lowered_in c p) (λ j u there none. ap (marks c p) ((h.2 j u there).idle none).1) in
    rw (← f.2) (
      drawn,
      record {
        numbers = λ x. sym (only (drawn_in x) (λ j u there none. nothing-drawn x u.drawn (omega arith)))
            ∙ h.0.each_once x ∙ ap (once_below x) (sym drawn);
        stops = λ c there. least-stop d v.lowered c (get_or s.words (c + 1) 0) (rw opened (h.1.below_opening c))
            (λ p low. h.1.below_lowered c p (rw (lowered c p) low))
            (rw (opened, ← (lowered c (get_or s.words (c + 1) 0))) (h.1.reached c));
        given = λ c p there. (let (below, place, given) = h.1.below_seen c p (rw (seen c p) there) in
            rw (opened, ← (lowered c p))
            (elim given [ inl is ↦ inl (rw (← is) (place_at-place p place)) | inr low ↦ inr low ]));
      },
    )

pub word_at : (words : List ℕ) (i n : ℕ) → get_elem? words i ≡ some n → get_or words i 0 ≡ n
word_at [] i n at = absurd (some-ne-none n (sym at))
word_at (x ∷ xs) zero n at = some-injective x n at
word_at (x ∷ xs) (suc i) n at = word_at xs i n at

-- the words of stops are these stops
pub stops-of_words : (stops : List (Option ℕ)) → All IsStop stops → map place_at (map stop_word stops) ≡ stops
stops-of_words [] places = refl
stops-of_words (None ∷ rest) places = λ i. None ∷ stops-of_words rest (λ c d low. places (suc c) d (omega arith)) i
stops-of_words (Some p ∷ rest) places = λ i.
    place_at-place p (places 0 None (omega arith)) i ∷ stops-of_words rest (λ c d low. places (suc c) d (omega arith)) i

-- what the fields of a pass show
abbrev view_in : TableId → ℕ → PassState → PassView
view_in t allowance me =
    pass_of (record { table = t; opened = me.0.opened }) allowance me.0.drawn me.0.seen me.0.lowered

pub looks : (t : TableId) (a c n : ℕ) (me after : PassState) → Sees c me n after
    → IsLook c (view_in t a me) (place_at n) (view_in t a after)
looks t a c n me after s = rw s.added (elim (cases_lt n past_places) [
  | inl place ↦ rw (lt-ltb n past_places place) (
    at_most-stop n (get_or me.0.opened (c + 1) 0) s.opening,
    λ p there. (s.seen p there).0,
    λ p there. (s.lowered p there).0,
    refl,
  )
  | inr past ↦ rw (le-ltb n past_places past) (
    refl,
    place_at-none (get_or me.0.opened (c + 1) 0) (omega (arith, s.opening)),
    grind (arith, s.seen),
    grind (arith, s.lowered),
  )
])

pub ruleset stops_made = (stops-of_words)
