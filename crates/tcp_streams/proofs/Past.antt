-- On a past whose records fall: an opening is before what looks back to it, and no two share a record.
use Rattle.tcp_streams.proofs.Words.{◌≡◌, ℕ, ◌<◌, ◌≤◌, Bool, true, false, ◌&&◌, not, List, [], ◌∷◌, Option, None, Some}
use Rattle.tcp_streams.proofs.Words.{refl, sym, ◌∙◌, arith, if◌then◌else◌, is_none, All, IfSome, AllPairs, list_any}
use Rattle.tcp_streams.proofs.Words.{false≢true, ne_eqb, or_right, All-nil, All-weaker, list_any-append, IfSome_then}
use Rattle.tcp_streams.proofs.Words.{Segment, is_opening, is_of, pair_of, first_strays, last_opening, members}
use Rattle.tcp_streams.proofs.Words.{opening_at, openings, opens, strays, RecordsDescend, Pair}
use Rattle.std.proofs.lemmas.Bool.{and_parts, and_right, not-true}
use Rattle.tcp_streams.proofs.Lists.{All-with_if, AllPairs-with_if, by_Bool, list_any-with_if}
use Rattle.tcp_streams.proofs.Pairs.{is_pair-refl, is_pair-same}

pub RecordsDescend-weaker : (n m : ℕ) (past : List Segment) → n ≤ m → RecordsDescend n past → RecordsDescend m past
RecordsDescend-weaker n m [] le f = tt
RecordsDescend-weaker n m (s ∷ past) le f = (omega (arith, f.0), f.1)

module _ (past : List Segment) (s : Segment) where
  -- a segment that opens nothing is no pair's last opening
  pub last_opening-kept : opens s past ≡ false → (p : Pair) → last_opening p (s ∷ past) ≡ last_opening p past
  last_opening-kept e p = rw (e, and_right (is_of p s) false refl)

  -- one that does is its pair's
  pub last_opening-new : opens s past ≡ true → (p : Pair) → is_of p s ≡ true → last_opening p (s ∷ past) ≡ Some s
  last_opening-new e p h = rw (h, e)

  -- and no other's
  pub last_opening-other : (p : Pair) → is_of p s ≡ false → last_opening p (s ∷ past) ≡ last_opening p past
  last_opening-other p h = rw h

  pub opening_at-opens : opens s past ≡ true → opening_at s past ≡ Some s
  opening_at-opens e = rw e

  pub opening_at-kept : opens s past ≡ false → opening_at s past ≡ last_opening (pair_of s) past
  opening_at-kept e = rw e

-- the last opening is below what the past is below
abbrev IsBelow : ℕ → Option Segment → Type 0
IsBelow n o = IfSome o (λ (t : Segment). t.rec < n)

IsBelow-if : (b : Bool) (n : ℕ) (s : Segment) (o : Option Segment) → s.rec < n → IsBelow s.rec o
    → IsBelow n (if b then Some s else o)
IsBelow-if b n s o h k = by_Bool b (λ e. rw e h) (λ e. rw e (IfSome_then o k (λ t lt. omega arith)))

last_opening-below : (p : Pair) (n : ℕ) (past : List Segment) → RecordsDescend n past → IsBelow n (last_opening p past)
last_opening-below p n [] f = tt
last_opening-below p n (s ∷ past) f = grind (arith, last_opening-below p s.rec past f.1, IsBelow-if, f.0, f.1)

-- what looks back to an earlier opening does not look back to this one
is_opening-below : (o : Segment) (x : Option Segment) → IsBelow o.rec x → is_opening o x ≡ false
is_opening-below o None h = refl
is_opening-below o (Some t) h = ne_eqb t.rec o.rec (λ e. omega (arith, h))

-- nobody belongs to an opening that is still to come
pub members-to_come : (o : Segment) (past : List Segment) → RecordsDescend o.rec past → members o past ≡ []
members-to_come o [] f = refl
members-to_come o (s ∷ past) f =
    rw (is_opening-below o (opening_at s past) (IsBelow-if (opens s past) o.rec s (last_opening (pair_of s) past) f.0
    (last_opening-below (pair_of s) s.rec past f.1)))
    (members-to_come o past (RecordsDescend-weaker s.rec o.rec past (omega (arith, f.0)) f.1))

-- the openings are below what the past is below, and their records rise
pub openings-below : (n : ℕ) (past : List Segment) → RecordsDescend n past
    → All (λ (o : Segment). o.rec < n) (openings past)
openings-below n [] f = All-nil _
openings-below n (s ∷ past) f = All-with_if (opens s past) (openings past) s (λ (o : Segment). o.rec < n)
    (All-weaker (λ (o : Segment). o.rec < s.rec) (λ (o : Segment). o.rec < n) (λ o h. omega (arith, f.0))
    (openings past) (openings-below s.rec past f.1))
    (λ _. f.0)

abbrev pub IsBefore : Segment → Segment → Type 0
IsBefore a b = a.rec < b.rec

pub openings-rise : (n : ℕ) (past : List Segment) → RecordsDescend n past → AllPairs IsBefore (openings past)
openings-rise n [] f = λ i j d lt over. absurd (omega (arith, over))
openings-rise n (s ∷ past) f = AllPairs-with_if (opens s past) (openings past) s IsBefore
    (openings-rise s.rec past f.1) (λ _. openings-below s.rec past f.1)

-- a first stray is a stray
abbrev HasStray : List Segment → Segment → Type 0
HasStray past f = list_any (is_of (pair_of f)) (strays past) ≡ true

first_strays-stray : (past : List Segment) → All (HasStray past) (first_strays past)
first_strays-stray [] = All-nil _
first_strays-stray (s ∷ past) =
    let none = is_none (opening_at s past) in
    All-with_if (none && not (list_any (is_of (pair_of s)) (strays past))) (first_strays past) s (HasStray (s ∷ past))
    (All-weaker _ _ (λ f h. list_any-with_if none (strays past) s (is_of (pair_of f)) h) (first_strays past)
    (first_strays-stray past))
    (λ e. rw (
      (and_parts none _ e).0,
      list_any-append (is_of (pair_of s)) (strays past) (s ∷ []),
      is_pair-refl (pair_of s),
    ) (or_right _ true refl))

-- where a pair has no stray, no first stray is of it
abbrev pub AreOfTwo : Segment → Segment → Type 0
AreOfTwo f s = is_of (pair_of f) s ≡ false

pub first_strays-other : (past : List Segment) (s : Segment) → list_any (is_of (pair_of s)) (strays past) ≡ false
    → All (λ f. AreOfTwo f s) (first_strays past)
first_strays-other past s none = All-weaker (HasStray past) _
    (λ f some. by_Bool (is_of (pair_of f) s)
    (λ e. absurd (false≢true (sym none ∙ rw (is_pair-same (pair_of f) (pair_of s) e) at some)))
    (λ e. e))
    (first_strays past) (first_strays-stray past)

-- so no two first strays are of one pair
pub first_strays-apart : (past : List Segment) → AllPairs AreOfTwo (first_strays past)
first_strays-apart [] = λ i j d lt over. absurd (omega (arith, over))
first_strays-apart (s ∷ past) =
    AllPairs-with_if _ (first_strays past) s AreOfTwo (first_strays-apart past)
    (λ e. first_strays-other past s (not-true _ (and_parts (is_none (opening_at s past)) _ e).1))
