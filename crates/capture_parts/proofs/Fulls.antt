-- By which record a part is full, as more of the records is known.
use Rattle.capture_parts.proofs.Terms.{FullPart, List, None, Option, Endpoints, Some, [], ap, ap₂, append-nil, arith}
use Rattle.capture_parts.proofs.Terms.{cases_eq, cases_lt, cond-false, cond-true, eq-eqb, false, full_at, full_from}
use Rattle.capture_parts.proofs.Terms.{given, given_from}
use Rattle.capture_parts.proofs.Terms.{if◌then◌else◌, inl, inr, le-ltb, length, nat_lt, length-append, lt-ltb, ne_eqb}
use Rattle.capture_parts.proofs.Terms.{none-some, option_or}
use Rattle.capture_parts.proofs.Terms.{option_or-none, option_or_assoc, pair_at, refl, sym, true, ℕ, ◌++◌, ◌+◌}
use Rattle.capture_parts.proofs.Terms.{◌<◌, ◌==◌, ◌^◌, ◌∙◌, ◌∷◌, ◌≡◌, ◌≤◌}
use Rattle.capture_parts.proofs.Given.{given_from-snoc}

-- ---- at one record

-- a part is not full below 2^31 bytes, and is from there on
full_at-room : (size count : ℕ) (pair : Option Endpoints) → size + count < 2 ^ 31 → full_at size count pair ≡ None
full_at-room size count pair room = cond-true _ _ _ (lt-ltb (size + count) (2 ^ 31) room)

full_at-none : (size count : ℕ) (pair : Option Endpoints) → 2 ^ 31 ≤ size + count
    → full_at size count pair ≡ Some (record { pair = pair })
full_at-none size count pair none = cond-false _ _ _ (le-ltb (size + count) (2 ^ 31) none)

-- so many bytes more of a record with this pair: at once, or one after the other
full_at-more : (size a b : ℕ) (pair first : Option Endpoints) → size < 2 ^ 31 → (0 < a → first ≡ pair)
    → option_or (full_at size a first) (full_at (size + a) b pair) ≡ full_at size (a + b) pair
full_at-more size a b pair first small same = elim (cases_lt (size + a) (2 ^ 31)) [
  | inl room ↦ rw (full_at-room size a first room)
      (ap (λ (n : ℕ). if nat_lt n (2 ^ 31) then None else Some (record { pair = pair }))
      (let e : size + a + b ≡ size + (a + b) = omega arith in e))
  | inr none ↦
      let some : 0 < a = omega (arith, none, small) in
      let more : 2 ^ 31 ≤ size + (a + b) = omega (arith, none) in
      rw (full_at-none size a first none, full_at-none size (a + b) pair more, same some) refl
]

or_same : {X : Type 0} (a b c : Option X) → (a ≡ None → b ≡ c) → option_or a b ≡ option_or a c
or_same None b c same = same refl
or_same (Some x) b c same = refl

full_at-same : (size a : ℕ) (pair first : Option Endpoints) → size < 2 ^ 31 → (0 < a → first ≡ pair)
    → full_at size a first ≡ full_at size a pair
full_at-same size a pair first small same = elim (cases_eq a 0) [
  | inl none ↦
      let room : size + a < 2 ^ 31 = omega (arith, small, none) in
      full_at-room size a first room ∙ sym (full_at-room size a pair room)
  | inr some ↦ ap (full_at size a) (same (omega (arith, some)))
]

module _ (link parts i : ℕ) where
  abbrev one : ℕ → List ℕ → List ℕ
  one = given link parts (λ n bytes. bytes) i

  abbrev all : ℕ → List (List ℕ) → List ℕ
  all = given_from link parts (λ n bytes. bytes) i

  abbrev full : ℕ → ℕ → List (List ℕ) → Option FullPart
  full = full_from link parts i

  -- one record more behind others
  full_from-snoc : (size n : ℕ) (rs : List (List ℕ)) (r : List ℕ) → full size n (rs ++ r ∷ [])
      ≡ option_or (full size n rs)
      (full_at (size + length (all n rs)) (length (one (n + length rs) r)) (pair_at link r))
  full_from-snoc size n [] r = option_or-none (full_at size (length (one n r)) (pair_at link r))
      ∙ ap₂ (λ (s m : ℕ). full_at s (length (one m r)) (pair_at link r)) (omega arith) (omega arith)
  full_from-snoc size n (x ∷ rs) r =
      let at : n + 1 + length rs ≡ n + length (x ∷ rs) = omega arith in
      let sum : size + length (one n x) + length (all (n + 1) rs) ≡ size + length (one n x ++ all (n + 1) rs) =
      omega (arith, length-append (one n x) (all (n + 1) rs)) in
      rw (full_from-snoc (size + length (one n x)) (n + 1) rs r, at, sum) (sym (option_or_assoc
      (full_at size (length (one n x)) (pair_at link x)) (full (size + length (one n x)) (n + 1) rs)
      (full_at (size + length (one n x ++ all (n + 1) rs)) (length (one (n + length (x ∷ rs)) r)) (pair_at link r))))

  -- where none of these records fills the part, it is below 2^31 bytes
  room_left : (size n : ℕ) (rs : List (List ℕ)) → size < 2 ^ 31 → full size n rs ≡ None
      → size + length (all n rs) < 2 ^ 31
  room_left size n [] small none = omega (arith, small)
  room_left size n (x ∷ rs) small none =
      let k : ℕ = length (one n x) in
      elim (cases_lt (size + k) (2 ^ 31)) [
        | inl room ↦
            let later = rw (full_at-room size k (pair_at link x) room) at none in
            omega (arith, room_left (size + k) (n + 1) rs room later, length-append (one n x) (all (n + 1) rs))
        | inr full ↦ absurd (none-some _ (sym (rw (full_at-none size k (pair_at link x) full) at none)))
      ]

  -- one record in place of another behind the same records, of which part i got the same or more
  full_last : (size : ℕ) (records : List (List ℕ)) (was now : List ℕ) (later : Option FullPart) → size < 2 ^ 31
      → (size + length (all 1 records) < 2 ^ 31
      → option_or (full_at (size + length (all 1 records)) (length (one (1 + length records) was)) (pair_at link was))
      later
      ≡ full_at (size + length (all 1 records)) (length (one (1 + length records) now)) (pair_at link now))
      → option_or (full size 1 (records ++ was ∷ [])) later ≡ full size 1 (records ++ now ∷ [])
  full_last size records was now later small same =
      rw (full_from-snoc size 1 records was, full_from-snoc size 1 records now, option_or_assoc)
      (or_same (full size 1 records) _ _ (λ none. same (room_left size 1 records small none)))

  -- more of the record behind these is known, which goes to part p: by how much of it part i is full
  pub full_front : (p size n : ℕ) (records : List (List ℕ)) (was now more : List ℕ) → n ≡ length records + 1
      → size < 2 ^ 31 → one n was ++ (if p == i then more else []) ≡ one n now
      → (0 < length (one n was) → pair_at link was ≡ pair_at link now)
      → option_or (full size 1 (records ++ was ∷ []))
      (if p == i then full_at (size + length (all 1 (records ++ was ∷ []))) (length more) (pair_at link now) else None)
      ≡ full size 1 (records ++ now ∷ [])
  full_front p size n records was now more is small got same =
      let at : 1 + length records ≡ n = omega (arith, is) in
      let before : ℕ = size + length (all 1 records) in
      let a : ℕ = length (one n was) in
      let pair : Option Endpoints = pair_at link now in
      elim (cases_eq p i) [
        | inl own ↦
            let is_own : (p == i) ≡ true = eq-eqb p i own in
            let sum = ap length (rw is_own at got) in
            let more_is : length (one n now) ≡ a + length more = omega (arith, sum, length-append (one n was) more) in
            let grown : size + length (all 1 (records ++ was ∷ [])) ≡ before + a =
            rw (given_from-snoc link parts (λ n bytes. bytes) i 1 records was, at)
            (omega (arith, length-append (all 1 records) (one n was))) in
            rw (is_own, grown) (full_last size records was now (full_at (before + a) (length more) pair) small
            (λ room. rw (at, more_is) (full_at-more before a (length more) pair (pair_at link was) room same)))
        | inr other ↦
            let is_other : (p == i) ≡ false = ne_eqb p i other in
            let kept = rw (is_other, append-nil) at got in
            rw is_other (full_last size records was now None small
            (λ room. rw (at, ← kept, option_or-none)
            (full_at-same before a pair (pair_at link was) room same)))
      ]

  -- an empty record fills nothing
  pub full_from-empty : (size : ℕ) (records : List (List ℕ)) → size < 2 ^ 31
      → full size 1 (records ++ [] ∷ []) ≡ full size 1 records
  full_from-empty size records small =
      full_from-snoc size 1 records []
      ∙ or_same (full size 1 records) _ None (λ none.
      full_at-room (size + length (all 1 records)) 0 (pair_at link [])
      (omega (arith, room_left size 1 records small none)))
      ∙ option_or-none (full size 1 records)
