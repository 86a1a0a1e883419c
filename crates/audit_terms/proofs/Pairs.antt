-- What holds of each two elements of a list holds of them in any order.
use Rattle.std.proofs.Common.{Bool, List, [], ◌∷◌, ◌++◌, filter, map}
use Rattle.std.{proofs.lemmas.Bool.cond_both, specs.List.AllByRecursion}
use Rattle.audit_terms.proofs.FindingLists.{each-append, each-filter, each-ordered, each-put, each-weaker}
use Rattle.audit_terms.specs.Order.{ordered_by, put_by}
use Rattle.audit_terms.specs.laws.Pairs.{EachPair}

module _ {X : Type 0} (P : X → Type 0) where
  pub all-mapped : {Y : Type 0} (f : Y → X) (ys : List Y) → AllByRecursion (λ y. P (f y)) ys →
      AllByRecursion P (map f ys)
  all-mapped f [] p = tt
  all-mapped f (y ∷ ys) p = (p.0, all-mapped f ys p.1)

  pub all-before_map : {Y : Type 0} (f : Y → X) (ys : List Y) → AllByRecursion P (map f ys) →
      AllByRecursion (λ y. P (f y)) ys
  all-before_map f [] p = tt
  all-before_map f (y ∷ ys) p = (p.0, all-before_map f ys p.1)

module _ {X : Type 0} (R : X → X → Type 0) where
  -- each of the first list stands so to each of the second
  abbrev pub Across : List X → List X → Type 0
  Across xs ys = AllByRecursion (λ x. AllByRecursion (R x) ys) xs

  -- where the one is of one sort and the other of another
  pub across-by : (P Q : X → Type 0) → ((x y : X) → P x → Q y → R x y) → (xs ys : List X) →
      AllByRecursion P xs → AllByRecursion Q ys → Across xs ys
  across-by P Q f xs ys p q =
      each-weaker P (λ x. AllByRecursion (R x) ys) (λ x px. each-weaker Q (R x) (λ y qy. f x y px qy) ys q) xs p

  pub pairs-append : (xs ys : List X) → EachPair R xs → EachPair R ys → Across xs ys → EachPair R (xs ++ ys)
  pairs-append [] ys p q r = q
  pairs-append (x ∷ xs) ys p q r = (each-append (R x) xs ys p.0 r.0, pairs-append xs ys p.1 q r.1)

  pub pairs-mapped : {Y : Type 0} (f : Y → X) (ys : List Y) → EachPair (λ x y. R (f x) (f y)) ys → EachPair R (map f ys)
  pairs-mapped f [] p = tt
  pairs-mapped f (y ∷ ys) p = (all-mapped (R (f y)) f ys p.0, pairs-mapped f ys p.1)

  pub pairs-filter : (test : X → Bool) (xs : List X) → EachPair R xs → EachPair R (filter test xs)
  pairs-filter test [] p = tt
  pairs-filter test (x ∷ xs) p =
      let rest = pairs-filter test xs p.1 in
      cond_both (test x) _ _ (EachPair R) (λ e. (each-filter (R x) test xs p.0, rest)) (λ e. rest)

  module _ (after : X → X → Bool) (turned : (x y : X) → R x y → R y x) where
    pairs-put : (x : X) (ys : List X) → AllByRecursion (R x) ys → EachPair R ys → EachPair R (put_by after x ys)
    pairs-put x [] p q = (tt, tt)
    pairs-put x (y ∷ ys) p q =
        cond_both (after x y) _ _ (EachPair R)
        (λ e. (each-put (R y) after x ys (turned x y p.0) q.0, pairs-put x ys p.1 q.1)) (λ e. (p, q))

    pub pairs-ordered : (xs : List X) → EachPair R xs → EachPair R (ordered_by after xs)
    pairs-ordered [] p = tt
    pairs-ordered (x ∷ xs) p =
        pairs-put x (ordered_by after xs) (each-ordered (R x) after xs p.0) (pairs-ordered xs p.1)

-- two elements that stand so, and each of which is of a sort, stand so too
module _ {X : Type 0} (R S : X → X → Type 0) (P : X → Type 0) (f : (x y : X) → P x → P y → R x y → S x y) where
  refine-later : (x : X) (ys : List X) → P x → AllByRecursion P ys → AllByRecursion (R x) ys → AllByRecursion (S x) ys
  refine-later x [] p q r = tt
  refine-later x (y ∷ ys) p q r = (f x y p q.0 r.0, refine-later x ys p q.1 r.1)

  pub pairs-refine : (xs : List X) → AllByRecursion P xs → EachPair R xs → EachPair S xs
  pairs-refine [] p r = tt
  pairs-refine (x ∷ xs) p r = (refine-later x xs p.0 p.1 r.0, pairs-refine xs p.1 r.1)
