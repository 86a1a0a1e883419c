-- Lists put in order by a total order that tells all elements apart: what putting in order keeps, and where it is the
-- same for two lists.
use Rattle.std.proofs.Common.{Bool, List, [], ap, arith, false, get_or, if◌then◌else◌, length, refl, set, suc, sym}
use Rattle.std.proofs.Common.{true, zero, ℕ, ◌++◌, ◌<◌, ◌∙◌, ◌∷◌, ◌≡◌}
use Rattle.std.proofs.lemmas.{Bool.cond_both, List.get_or-set_other, List.get_or-set_same, List.length-set}
use Rattle.std.proofs.lemmas.List.Sorted.{IsPermutation-append, IsPermutation-append_comm, IsPermutation-cons}
use Rattle.std.proofs.lemmas.List.Sorted.{IsPermutation-keeps, IsPermutation-refl, IsPermutation-trans}
use Rattle.std.specs.List.{swap, Sorted.IsPermutation}
use Rattle.audit_terms.specs.Order.{ordered_by, put_by}

-- the test that one element comes after another, in an order that tells all elements apart
pub record IsAfter {X : Type 0} (after : X → X → Bool) : Type 0 where
  pub not_self : (x : X) → after x x ≡ false
  pub one_way : (x y : X) → after x y ≡ true → after y x ≡ false
  pub level : (x y : X) → after x y ≡ false → after y x ≡ false → x ≡ y
  pub above : (x y z : X) → after x z ≡ true → after y z ≡ false → after x y ≡ true

module _ {X : Type 0} (after : X → X → Bool) (o : IsAfter after) where
  -- elements go in one after the other
  abbrev pub put_all : List X → List X → List X
  put_all [] zs = zs
  put_all (x ∷ xs) zs = put_by after x (put_all xs zs)

  pub ordered-append : (xs ys : List X) → ordered_by after (xs ++ ys) ≡ put_all xs (ordered_by after ys)
  ordered-append [] ys = refl
  ordered-append (x ∷ xs) ys = ap (put_by after x) (ordered-append xs ys)

  -- the order in which two elements go in makes no difference
  pub put-put : (x y : X) (zs : List X) → put_by after x (put_by after y zs) ≡ put_by after y (put_by after x zs)
  put-put x y [] = grind (arith, o.one_way x y, o.level x y)
  put-put x y (z ∷ zs) = grind (arith, o.one_way x y, o.level x y, o.above x y z, o.above y x z, put-put x y zs)

  -- the list without the first element that is not below b
  take_out : X → List X → List X
  take_out b [] = []
  take_out b (x ∷ xs) = if after b x then x ∷ take_out b xs else xs

  take_out-put : (b : X) (xs : List X) → take_out b (put_by after b xs) ≡ xs
  unfolding take_out
  take_out-put b [] = grind (arith, o.not_self b)
  take_out-put b (x ∷ xs) = grind (arith, o.not_self b, take_out-put b xs)

  -- two lists that are the same after an element went in are the same
  put-injective : (b : X) (xs ys : List X) → put_by after b xs ≡ put_by after b ys → xs ≡ ys
  put-injective b xs ys e = sym (take_out-put b xs) ∙ ap (take_out b) e ∙ take_out-put b ys

  -- an element in another's place
  put-set : (xs : List X) (i : ℕ) (d v : X) → i < length xs →
      put_by after (get_or xs i d) (ordered_by after (set xs i v)) ≡ put_by after v (ordered_by after xs)
  put-set [] i d v l = absurd (omega arith)
  put-set (x ∷ xs) zero d v l = put-put x v (ordered_by after xs)
  put-set (x ∷ xs) (suc i) d v l = grind (arith, put-set xs i d v (omega arith), put-put)

  ordered-swap : (xs : List X) (i j : ℕ) → i < length xs → j < length xs
      → ordered_by after (swap xs i j) ≡ ordered_by after xs
  ordered-swap [] i j p q = refl
  ordered-swap (d ∷ ys) i j p q =
      let b = get_or (d ∷ ys) j d in
      let one = set (d ∷ ys) i b in
      let l : j < length one = rw length-set q in
      let at : get_or one j d ≡ b = grind (arith, get_or-set_same, get_or-set_other) in
      let first = put-set (d ∷ ys) i d b p in
      let second = put-set one j d (get_or (d ∷ ys) i d) l in
      put-injective b _ _ ((rw at at second) ∙ first)

  -- nor does any other order of the same elements
  pub ordered-permutation : (xs ys : List X) → IsPermutation xs ys → ordered_by after ys ≡ ordered_by after xs
  ordered-permutation xs ys h =
      IsPermutation-keeps xs (λ l. ordered_by after l ≡ ordered_by after xs) refl
      (λ l i j p q e. ordered-swap l i j p q ∙ e) ys h

  -- in order stand the same elements
  permuted-put : (x : X) (xs : List X) → IsPermutation (x ∷ xs) (put_by after x xs)
  permuted-put x [] = IsPermutation-refl (x ∷ [])
  permuted-put x (y ∷ ys) =
      cond_both (after x y) _ _ (IsPermutation (x ∷ y ∷ ys)) (λ _. IsPermutation-trans _ _ _
      (IsPermutation-append _ _ ys ys (IsPermutation-append_comm (x ∷ []) (y ∷ [])) (IsPermutation-refl ys))
      (IsPermutation-cons y _ _ (permuted-put x ys))) (λ _. IsPermutation-refl (x ∷ y ∷ ys))

  permuted : (xs : List X) → IsPermutation xs (ordered_by after xs)
  permuted [] = IsPermutation-refl []
  permuted (x ∷ xs) =
      IsPermutation-trans _ _ _ (IsPermutation-cons x _ _ (permuted xs)) (permuted-put x (ordered_by after xs))

  pub ordered-ordered : (xs : List X) → ordered_by after (ordered_by after xs) ≡ ordered_by after xs
  ordered-ordered xs = ordered-permutation xs (ordered_by after xs) (permuted xs)

  -- putting parts in order first makes no difference
  pub ordered-both : (xs ys : List X) →
      ordered_by after (ordered_by after xs ++ ordered_by after ys) ≡ ordered_by after (xs ++ ys)
  ordered-both xs ys = ordered-permutation _ _ (IsPermutation-append _ _ _ _ (permuted xs) (permuted ys))

  pub ordered-left : (xs ys : List X) → ordered_by after (ordered_by after xs ++ ys) ≡ ordered_by after (xs ++ ys)
  ordered-left xs ys = ordered-permutation _ _ (IsPermutation-append _ _ ys ys (permuted xs) (IsPermutation-refl ys))

  -- nor does which of two parts comes first
  pub ordered-append_comm : (xs ys : List X) → ordered_by after (xs ++ ys) ≡ ordered_by after (ys ++ xs)
  ordered-append_comm xs ys = ordered-permutation _ _ (IsPermutation-append_comm ys xs)

  -- two lists that are alike in order may stand for each other in a longer one
  pub ordered-alike : (xs ys us vs : List X) → ordered_by after xs ≡ ordered_by after ys
      → ordered_by after us ≡ ordered_by after vs → ordered_by after (xs ++ us) ≡ ordered_by after (ys ++ vs)
  ordered-alike xs ys us vs p q = grind (arith, ordered-both xs us, ordered-both ys vs)

  -- no element of the list stands before x
  abbrev pub NoneBefore : X → List X → Type 0
  NoneBefore x [] = Unit {0}
  NoneBefore x (y ∷ ys) = (after x y ≡ false) × NoneBefore x ys

  -- the list stands in order
  abbrev pub IsInOrder : List X → Type 0
  IsInOrder [] = Unit {0}
  IsInOrder (x ∷ xs) = NoneBefore x xs × IsInOrder xs

  pub put-front : (x : X) (xs : List X) → NoneBefore x xs → put_by after x xs ≡ x ∷ xs
  put-front x [] h = refl
  put-front x (y ∷ ys) h = rw h.0 refl

  -- a list in order stays as it is
  pub ordered-in_order : (xs : List X) → IsInOrder xs → ordered_by after xs ≡ xs
  ordered-in_order [] h = refl
  ordered-in_order (x ∷ xs) h = ap (put_by after x) (ordered-in_order xs h.1) ∙ put-front x xs h.0

  none_before-below : (x y : X) (zs : List X) → after x y ≡ false → NoneBefore y zs → NoneBefore x zs
  none_before-below x y [] p h = tt
  none_before-below x y (z ∷ zs) p h =
      let above = o.above x y z in (grind (arith, h.0), none_before-below x y zs p h.1)

  none_before-put : (y x : X) (zs : List X) → after y x ≡ false → NoneBefore y zs → NoneBefore y (put_by after x zs)
  none_before-put y x [] p h = (p, tt)
  none_before-put y x (z ∷ zs) p h = grind (arith, none_before-put y x zs p h.1, h.0, h.1)

  pub in_order-put : (x : X) (xs : List X) → IsInOrder xs → IsInOrder (put_by after x xs)
  in_order-put x [] h = (tt, tt)
  in_order-put x (y ∷ ys) h = grind (arith, in_order-put x ys h.1, none_before-put, none_before-below, h.0, h.1)

  -- what is put in order stands in order
  pub in_order-ordered : (xs : List X) → IsInOrder (ordered_by after xs)
  in_order-ordered [] = tt
  in_order-ordered (x ∷ xs) = in_order-put x (ordered_by after xs) (in_order-ordered xs)

  -- neighbours stand in order
  abbrev pub IsRising : List X → Type 0
  IsRising [] = Unit {0}
  IsRising (x ∷ []) = Unit {0}
  IsRising (x ∷ y ∷ ys) = (after x y ≡ false) × IsRising (y ∷ ys)

  pub in_order-rising : (xs : List X) → IsRising xs → IsInOrder xs
  in_order-rising [] h = tt
  in_order-rising (x ∷ []) h = (tt, tt)
  in_order-rising (x ∷ y ∷ ys) h =
      let rest : IsInOrder (y ∷ ys) = in_order-rising (y ∷ ys) h.1 in
      ((h.0, none_before-below x y ys h.0 rest.0), rest)

  -- no element of the second list stands before one of the first
  abbrev pub Precedes : List X → List X → Type 0
  Precedes [] ys = Unit {0}
  Precedes (x ∷ xs) ys = NoneBefore x ys × Precedes xs ys

  none_before-append : (x : X) (ys zs : List X) → NoneBefore x ys → NoneBefore x zs → NoneBefore x (ys ++ zs)
  none_before-append x [] zs p q = q
  none_before-append x (y ∷ ys) zs p q = (p.0, none_before-append x ys zs p.1 q)

  pub in_order-append : (xs ys : List X) → IsInOrder xs → IsInOrder ys → Precedes xs ys → IsInOrder (xs ++ ys)
  in_order-append [] ys p q r = q
  in_order-append (x ∷ xs) ys p q r = (none_before-append x xs ys p.0 r.0, in_order-append xs ys p.1 q r.1)
