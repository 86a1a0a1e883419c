-- Lists whose elements are the same, each list's by a reading of its own; lists of which an element is changed; lists
-- to which loops add.
use Rattle.audit_rounds.proofs.Words.{◌≡◌, ℕ, zero, suc, ◌+◌, ◌<◌, ◌==◌, Bool, if◌then◌else◌, List, [], ◌∷◌, ◌++◌, All}
use Rattle.audit_rounds.proofs.Words.{Bor, get_or, length, map, take, drop, set, sum_by, refl, sym, ap, ◌∙◌, subst}
use Rattle.audit_rounds.proofs.Words.{arith, nat_tests, append_assoc, append-nil, length-map, length-append, get_or-map}
use Rattle.audit_rounds.proofs.Words.{map-append, nil_from_length, get_or-append_seam, All-map, Frame, flat_map}
use Rattle.audit_rounds.proofs.Words.{NeverFallFrom, eq-eqb, ne_eqb, Option, PerConnection}
use Rattle.std.specs.Ordering.{nat_cmp}
use Rattle.std.specs.List.Sorted.{IsSorted}
use Rattle.std.specs.List.{sum}
use Rattle.std.proofs.Math.Seq.{take-add}
use Rattle.std.proofs.lemmas.List.{flat_map_more}
use Rattle.std.proofs.lemmas.List.Sums.{sum-map}
use Rattle.std.proofs.lemmas.Simd.{map-map}

-- the readings that proofs of this crate need most
abbrev pub frames_in : Bor (List Frame) → List Frame
frames_in frames = frames.now

abbrev pub stop_in : PerConnection → Option ℕ
stop_in one = one.stop

module _ {X Y Z : Type 0} (f : X → Z) (g : Y → Z) where
  pub as-many : (xs : List X) (ys : List Y) → map f xs ≡ map g ys → length xs ≡ length ys
  as-many xs ys e = sym (length-map xs f) ∙ ap length e ∙ length-map ys g

  pub all-alike : (P : Z → Type 0) (xs : List X) (ys : List Y) → map f xs ≡ map g ys → All (λ y. P (g y)) ys →
      All (λ x. P (f x)) xs
  all-alike P xs ys e h n d l =
      let long = length-map xs f in
      subst P (get_or-map f xs n d (f d) l)
      (subst (All P) (sym e) (All-map P g ys h) n (f d) (omega (arith, long, l)))

  pub maps-alike : {W : Type 0} (h : Z → W) (xs : List X) (ys : List Y) → map f xs ≡ map g ys →
      map (λ x. h (f x)) xs ≡ map (λ y. h (g y)) ys
  maps-alike h xs ys e = sym (map-map h f xs) ∙ ap (map h) e ∙ map-map h g ys

  pub sums-alike : (h : Z → ℕ) (xs : List X) (ys : List Y) → map f xs ≡ map g ys →
      sum_by (λ x. h (f x)) xs ≡ sum_by (λ y. h (g y)) ys
  sums-alike h xs ys e = sym (sum-map (λ x. h (f x)) xs) ∙ ap sum (maps-alike h xs ys e) ∙ sum-map (λ y. h (g y)) ys

  -- one batch more
  pub batch-more : (all found after : List X) (connections batch rest : List Y) (done k : ℕ) → length batch ≡ k
      → batch ≡ take k rest → rest ≡ drop done connections → after ≡ all ++ found
      → map f all ≡ map g (take done connections) → map f found ≡ map g batch
      → map f after ≡ map g (take (done + length batch) connections)
  batch-more all found after connections batch rest done k long front back more before now =
      rw (more, take-add, long, ← back, ← front) (simp (map-append, before, now))

  -- read the same, place by place
  pub maps-each : (xs : List X) (ys : List Y) → length xs ≡ length ys
      → ((n : ℕ) (x : X) (y : Y) → n < length ys → f (get_or xs n x) ≡ g (get_or ys n y)) → map f xs ≡ map g ys
  maps-each [] [] long h = refl
  maps-each [] (y ∷ ys) long h = absurd (omega arith)
  maps-each (x ∷ xs) [] long h = absurd (omega arith)
  maps-each (x ∷ xs) (y ∷ ys) long h =
      ap (λ z. z ∷ map f xs) (h 0 x y (omega arith))
      ∙ ap (λ zs. g y ∷ zs) (maps-each xs ys (omega arith) (λ n x y l. h (suc n) x y (omega arith)))

-- an element, where there is one
pub some_of : {X : Type 0} (xs : List X) (n : ℕ) → n < length xs → X
some_of [] n l = absurd (omega arith)
some_of (x ∷ xs) n l = x

-- ---- one element is changed

-- what holds of each by its place
pub each-changed : {X : Type 0} (P Q : ℕ → X → Type 0) (xs : List X) (k : ℕ) (old new : X) → k < length xs
    → old ≡ get_or xs k old → (P k old → Q k new) → ((n : ℕ) (x : X) → (k ≡ n → ⊥) → P n x → Q n x)
    → ((n : ℕ) (d : X) → n < length xs → P n (get_or xs n d)) → (n : ℕ) (d : X) → n < length xs
    → Q n (get_or (set xs k new) n d)
each-changed P Q [] k old new l is own others h n d m = absurd (omega arith)
each-changed P Q (x ∷ xs) zero old new l is own others h zero d m = own (subst (P 0) (sym is) (h 0 old (omega arith)))
each-changed P Q (x ∷ xs) zero old new l is own others h (suc n) d m =
    others (suc n) (get_or xs n d) (λ e. omega arith) (h (suc n) d (omega arith))
each-changed P Q (x ∷ xs) (suc k) old new l is own others h zero d m =
    others 0 x (λ e. omega arith) (h 0 d (omega arith))
each-changed P Q (x ∷ xs) (suc k) old new l is own others h (suc n) d m =
    each-changed (λ n. P (suc n)) (λ n. Q (suc n)) xs k old new (omega arith) is own
    (λ n x ne. others (suc n) x (λ e. ne (omega arith))) (λ n d l. h (suc n) d (omega arith)) n d (omega arith)

-- what parts say of connection n, with one part more
module _ {P X : Type 0} (connection : P → ℕ) (says : P → List X) (n : ℕ) (parts : List P) (part : P) where
  abbrev said : List P → List X
  said parts = flat_map (λ (other : P). if connection other == n then says other else []) parts

  pub said-own : connection part ≡ n → said (parts ++ part ∷ []) ≡ said parts ++ says part
  said-own e = sym (flat_map_more (λ other. if connection other == n then says other else []) [] parts part)
      ∙ ap (λ (b : Bool). said parts ++ (if b then says part else [])) (eq-eqb (connection part) n e)

  pub said-other : (connection part ≡ n → ⊥) → said (parts ++ part ∷ []) ≡ said parts
  said-other ne = sym (flat_map_more (λ other. if connection other == n then says other else []) [] parts part)
      ∙ ap (λ (b : Bool). said parts ++ (if b then says part else [])) (ne_eqb (connection part) n ne)
      ∙ append-nil (said parts)

-- ---- sorted numbers

never-fall-after : (x : ℕ) (xs : List ℕ) → IsSorted nat_cmp (x ∷ xs) → NeverFallFrom x xs
never-fall-after x [] h = tt
never-fall-after x (y ∷ ys) h =
    let first = h 0 x (omega arith) (omega arith) in (
      grind (arith, nat_tests),
      never-fall-after y ys (λ k d p q. let e : suc k + 1 ≡ suc (k + 1) = omega arith in
          rw e at (h (suc k) d (omega arith) (omega arith))),
    )

pub never-fall : (xs : List ℕ) → IsSorted nat_cmp xs → NeverFallFrom 0 xs
never-fall [] h = tt
never-fall (x ∷ xs) h = (omega arith, never-fall-after x xs h)

-- ---- what a loop has taken of a list so far

-- one element more is taken
pub taken-more : {X : Type 0} (taken : List X) (x : X) (rest left all : List X) → left ≡ x ∷ rest → taken ++ left ≡ all
    → (taken ++ x ∷ []) ++ rest ≡ all
taken-more taken x rest left all e whole = rw append_assoc (rw e at whole)

-- what holds of all holds of it
pub taken-holds : {X : Type 0} (P : X → Type 0) (taken : List X) (x : X) (rest left all : List X) → left ≡ x ∷ rest
    → taken ++ left ≡ all → All P all → P x
taken-holds P taken x rest left all e whole h =
    let same : taken ++ x ∷ rest ≡ all = rw e at whole in
    let long = length-append taken (x ∷ rest) in
    rw (get_or-append_seam taken x rest x) at (rw (← same) at h (length taken) x (omega arith))

-- nothing is left
pub taken-all : {X : Type 0} (taken left all : List X) → length left ≡ 0 → taken ++ left ≡ all → taken ≡ all
taken-all taken left all e whole = rw (nil_from_length left e, append-nil) at whole
