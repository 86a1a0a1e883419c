-- What parts get of records, one after the other.
use Rattle.capture_parts.proofs.Terms.{Bool, List, [], ap, append-nil, append_assoc, arith, cond-false, drop}
use Rattle.capture_parts.proofs.Terms.{drop-append-le, false, front_of, given, given_from, if◌then◌else◌}
use Rattle.capture_parts.proofs.Terms.{length, length-append, length-drop, length-take, min, ne_eqb, pair_at, pair_of}
use Rattle.capture_parts.proofs.Terms.{part_at}
use Rattle.capture_parts.proofs.Terms.{part_of, refl, sym, take, take-append-le, take-take, take_all, true, ℕ, ◌++◌}
use Rattle.capture_parts.proofs.Terms.{◌+◌, ◌<◌, ◌==◌, ◌∙◌, ◌∷◌, ◌≡◌, ◌≤◌}

-- the endpoints of a record do not change as more of it comes
pub pair_at-more : (link : ℕ) (front more : List ℕ) → 98 ≤ length front
    → pair_at link (front ++ more) ≡ pair_at link front
pair_at-more link front more long =
    let enough : 82 ≤ length (drop 16 front) = omega (arith, length-drop 16 front, long) in
    ap (λ (f : List ℕ). pair_of link f)
    (ap front_of (drop-append-le 16 front more (omega (arith, long))) ∙ take-append-le 82 (drop 16 front) more enough)

-- nor does its part
pub part_at-more : (link parts n : ℕ) (front more : List ℕ) → 98 ≤ length front
    → part_at link parts n (front ++ more) ≡ part_at link parts n front
part_at-more link parts n front more long = ap (part_of parts n) (pair_at-more link front more long)

cond-append : (b : Bool) (x y : List ℕ) → (if b then x else []) ++ (if b then y else []) ≡ (if b then x ++ y else [])
cond-append true x y = refl
cond-append false x y = refl

module _ (link parts : ℕ) (taken : ℕ → List ℕ → List ℕ) (i : ℕ) where
  -- what part i gets of one record, and of records from number n on
  abbrev one : ℕ → List ℕ → List ℕ
  one = given link parts taken i

  abbrev all : ℕ → List (List ℕ) → List ℕ
  all = given_from link parts taken i

  -- one record more behind others
  pub given_from-snoc : (n : ℕ) (rs : List (List ℕ)) (r : List ℕ)
      → all n (rs ++ r ∷ []) ≡ all n rs ++ one (n + length rs) r
  given_from-snoc n [] r = append-nil (one n r) ∙ ap (λ (m : ℕ). one m r) (omega arith)
  given_from-snoc n (x ∷ rs) r =
      let at : n + 1 + length rs ≡ n + length (x ∷ rs) = omega arith in
      rw (given_from-snoc (n + 1) rs r, at) (sym (append_assoc (one n x) _ _))

  -- an empty rest adds nothing
  pub given_from-empty : (n : ℕ) (rs : List (List ℕ)) → all n (rs ++ [] ∷ []) ≡ all n rs
  given_from-empty n rs = given_from-snoc n rs [] ∙ append-nil (all n rs)

  -- what a part gets of a record of which there is a byte
  pub given-some : (n : ℕ) (bytes : List ℕ) → 0 < length bytes
      → one n bytes ≡ (if part_at link parts n bytes == i then taken n bytes else [])
  given-some n bytes some = cond-false (length bytes == 0) _ _ (ne_eqb (length bytes) 0 (λ e. omega (arith, e, some)))

  -- more is taken of a record of which the first 98 bytes are there
  pub given-more : (n : ℕ) (front more extra : List ℕ) → 98 ≤ length front
      → taken n (front ++ more) ≡ taken n front ++ extra
      → one n front ++ (if part_at link parts n front == i then extra else []) ≡ one n (front ++ more)
  given-more n front more extra long more_is =
      rw (
        given-some n front (omega (arith, long)),
        given-some n (front ++ more) (omega (arith, long, length-append front more)),
        part_at-more link parts n front more long,
        more_is,
      ) (cond-append (part_at link parts n front == i) (taken n front) extra)

  -- and so of all records, the last of which it is
  pub given_from-more : (records : List (List ℕ)) (n : ℕ) (front whole extra : List ℕ) → n ≡ length records + 1
      → one n front ++ extra ≡ one n whole
      → all 1 (records ++ front ∷ []) ++ extra ≡ all 1 (records ++ whole ∷ [])
  given_from-more records n front whole extra is more =
      let at : 1 + length records ≡ n = omega (arith, is) in
      rw (given_from-snoc 1 records front, given_from-snoc 1 records whole, at, append_assoc, more) refl

-- the first a of the first b
pub take-min : (a b : ℕ) (q : List ℕ) → take a (take b q) ≡ take (min a b) q
take-min a b q = grind (arith, take-take, take_all, length-take)
