-- Lists that are gone through side by side.
use Rattle.std.specs.List.{AllZip}
use Rattle.std.proofs.Common.{◌≡◌, List, [], ◌∷◌, ◌++◌, append-nil, append_assoc, length, refl, subst}
use Rattle.std.proofs.lemmas.List.{nil_from_length}

-- what holds of two lists and of the second with a third holds of the first with the third
pub zip-through : {A B C : Type 0} (P : A → B → Type 0) (Q : B → C → Type 0) (R : A → C → Type 0)
    → ((x : A) (y : B) (z : C) → P x y → Q y z → R x z) → (xs : List A) (ys : List B) (zs : List C)
    → AllZip P xs ys → AllZip Q ys zs → AllZip R xs zs
zip-through P Q R step [] [] [] h k = tt
zip-through P Q R step [] [] (z ∷ zs) h k = absurd k
zip-through P Q R step [] (y ∷ ys) zs h k = absurd h
zip-through P Q R step (x ∷ xs) [] zs h k = absurd h
zip-through P Q R step (x ∷ xs) (y ∷ ys) [] h k = absurd k
zip-through P Q R step (x ∷ xs) (y ∷ ys) (z ∷ zs) h k =
    (step x y z h.0 k.0, zip-through P Q R step xs ys zs h.1 k.1)

-- of two lists that grow
pub zip-more : {A B : Type 0} (R : A → B → Type 0) (xs : List A) (ys : List B) (x : A) (y : B) → AllZip R xs ys
    → R x y → AllZip R (xs ++ x ∷ []) (ys ++ y ∷ [])
zip-more R [] [] x y h is = (is, tt)
zip-more R [] (b ∷ ys) x y h is = absurd h
zip-more R (a ∷ xs) [] x y h is = absurd h
zip-more R (a ∷ xs) (b ∷ ys) x y h is = (h.0, zip-more R xs ys x y h.1 is)

-- what comes next of the second list has one of the first
next-of : {A B : Type 0} (R : A → B → Type 0) (xs : List A) (taken : List B) (y : B) (rest : List B)
    → AllZip R xs (taken ++ y ∷ rest) → (x : A) × R x y
next-of R [] [] y rest h = absurd h
next-of R (x ∷ xs) [] y rest h = (x, h.0)
next-of R [] (b ∷ taken) y rest h = absurd h
next-of R (x ∷ xs) (b ∷ taken) y rest h = next-of R xs taken y rest h.1

pub zip-next : {A B : Type 0} (R : A → B → Type 0) (xs : List A) (taken : List B) (y : B) (rest left all : List B)
    → left ≡ y ∷ rest → taken ++ left ≡ all → AllZip R xs all → (x : A) × R x y
zip-next R xs taken y rest left all e whole h =
    next-of R xs taken y rest (subst (AllZip R xs) (rw (← whole) (rw e refl)) h)

-- what was taken of a list, and what is left
pub taken-more : {X : Type 0} (taken : List X) (x : X) (rest left all : List X) → left ≡ x ∷ rest → taken ++ left ≡ all
    → (taken ++ x ∷ []) ++ rest ≡ all
taken-more taken x rest left all e whole = rw append_assoc (rw e at whole)

pub taken-all : {X : Type 0} (taken left all : List X) → length left ≡ 0 → taken ++ left ≡ all → taken ≡ all
taken-all taken left all e whole = rw (nil_from_length left e, append-nil) at whole
