-- Membership in lists, in what one worker or all did, and in lists put in order.
use Rattle.std.proofs.lemmas.List.{drop_more, get_or-map, length-map}
use Rattle.std.proofs.lemmas.List.Elements.{All-contains, All-contains_itself, All-filter, All-from_recursion, All-map}
use Rattle.std.proofs.lemmas.List.Elements.{Contains-append_left, Contains-get_or, filter_passes, recursion_from_All}
use Rattle.audit_terms.proofs.{FindingLists.each-in_order, FindingOrder.in_order-permutation}
use Rattle.stop_desk.proofs.Words.{Bool, Contains, Contains-append_cases, Contains-append_right, Contains-permutation}
use Rattle.stop_desk.proofs.Words.{Finding, IsPermutation-filter_both, IsPermutation-middle, List, Some, [], ap, arith}
use Rattle.stop_desk.proofs.Words.{comes_after, cond_both, count_by, drop, eq-eqb, filter, flat_map, get_or}
use Rattle.stop_desk.proofs.Words.{get_or_from_slice_get, if◌then◌else◌, in_order, inl, inr, length, length-filter, map}
use Rattle.stop_desk.proofs.Words.{not, put_by, refl, slice_get, slice_get_within, subst, suc, sum_by-cons, sym, take}
use Rattle.stop_desk.proofs.Words.{take-append-drop, true, zero, ℕ, ⊎_elim, ◌++◌, ◌+◌, ◌<◌, ◌==◌, ◌∙◌, ◌∷◌, ◌≡◌, ◌⊎◌}
use Rattle.stop_desk.specs.laws.Machine.{by_all, by_worker}

-- a pair, where its type is not known
abbrev pub pair : {X Y : Type 0} → X → Y → X × Y
pair x y = (x, y)

pub contains-none : {X : Type 0} (x : X) → Contains [] x → ⊥
contains-none x h = absurd (omega arith)

pub contains-here : {X : Type 0} (x : X) (xs : List X) → Contains (x ∷ xs) x
contains-here x xs = (0, omega arith, refl)

pub contains-later : {X : Type 0} (y : X) (xs : List X) (x : X) → Contains xs x → Contains (y ∷ xs) x
contains-later y xs x h = (suc h.0, omega arith, h.2)

-- the first element, also by another name
pub contains-first : {X : Type 0} (y : X) (xs : List X) (x : X) → y ≡ x → Contains (y ∷ xs) x
contains-first y xs x same = subst (Contains (y ∷ xs)) same (contains-here y xs)

pub contains-cases : {X : Type 0} (y : X) (xs : List X) (x : X) → Contains (y ∷ xs) x → (y ≡ x) ⊎ Contains xs x
contains-cases y xs x (zero, l, e) = inl e
contains-cases y xs x (suc k, l, e) = inr (k, omega arith, e)

-- what holds of the first element and of the others holds of each; and so of pairs
pub contains-each : {X : Type 0} (y : X) (xs : List X) (P : X → Type 0) → P y → ((x : X) → Contains xs x → P x) →
    (x : X) → Contains (y ∷ xs) x → P x
contains-each y xs P here later x (zero, lt, e) = rw e at here
contains-each y xs P here later x (suc k, lt, e) = later x (k, omega arith, e)

pub contains-pair : {X Y : Type 0} (a : X) (b : Y) (xs : List (X × Y)) (P : X → Y → Type 0) → P a b →
    ((x : X) (y : Y) → Contains xs (x, y) → P x y) → (x : X) (y : Y) → Contains ((a, b) ∷ xs) (x, y) → P x y
contains-pair {X} {Y} a b xs P here later x y h =
    contains-each (a, b) xs (λ (z : X × Y). P z.0 z.1) here (λ z k. later z.0 z.1 k) (x, y) h

pub contains-one : {X : Type 0} (x y : X) → Contains (x ∷ []) y → x ≡ y
contains-one x y h = contains-each x [] (λ z. x ≡ z) refl (λ z k. absurd (contains-none z k)) y h

-- an element by its number
pub contains-got : {X : Type 0} (xs : List X) (i : ℕ) (x : X) → slice_get xs i ≡ Some x → Contains xs x
contains-got xs i x e = (i, slice_get_within xs i x e, get_or_from_slice_get xs i x x e)

-- a list, taken apart at an element
pub contains-apart : {X : Type 0} (xs : List X) (x : X) → Contains xs x →
    (front : List X) × (back : List X) × (xs ≡ front ++ x ∷ back)
contains-apart xs x (k, lt, is) =
    let back : drop k xs ≡ x ∷ drop (k + 1) xs = rw (drop_more xs k x lt, is) in
    (take k xs, drop (k + 1) xs, sym (take-append-drop k xs) ∙ ap (λ ys. take k xs ++ ys) back)

-- each element of a list's image, and of its images
pub contains-map : {X Y : Type 0} (f : X → Y) (xs : List X) (x : X) → Contains xs x → Contains (map f xs) (f x)
contains-map f xs x (k, lt, is) = (k, rw length-map lt, get_or-map f xs k x (f x) lt ∙ ap f is)

pub map-contains : {X Y : Type 0} (f : X → Y) (xs : List X) (y : Y) → Contains (map f xs) y →
    (x : X) × Contains xs x × (f x ≡ y)
map-contains {X} {Y} f xs y h =
    let Is = λ (z : Y). (x : X) × Contains xs x × (f x ≡ z) in
    All-contains Is _ y (All-map Is f xs (λ k d lt. (get_or xs k d, Contains-get_or xs k d lt, refl))) h

pub contains-flat_map : {X Y : Type 0} (f : X → List Y) (xs : List X) (x : X) (y : Y) → Contains xs x →
    Contains (f x) y → Contains (flat_map f xs) y
contains-flat_map f [] x y h k = absurd (contains-none x h)
contains-flat_map f (z ∷ xs) x y h k = ⊎_elim (λ same. Contains-append_left (f z) _ y (rw same k))
    (λ l. Contains-append_right (f z) _ y (contains-flat_map f xs x y l k)) (contains-cases z xs x h)

pub flat_map-contains : {X Y : Type 0} (f : X → List Y) (xs : List X) (y : Y) → Contains (flat_map f xs) y →
    (x : X) × Contains xs x × Contains (f x) y
flat_map-contains f [] y h = absurd (contains-none y h)
flat_map-contains f (x ∷ xs) y h = ⊎_elim (λ k. (x, contains-here x xs, k))
    (λ k. (let (z, among, own) = flat_map-contains f xs y k in (z, contains-later x xs z among, own)))
    (Contains-append_cases (f x) (flat_map f xs) y h)

-- what passes a test, and no other
pub filter-contains : {X : Type 0} (test : X → Bool) (xs : List X) (x : X) → Contains (filter test xs) x →
    Contains xs x × (test x ≡ true)
filter-contains test xs x h = (
  All-contains (Contains xs) _ x (All-filter test (Contains xs) xs (All-contains_itself xs)) h,
  All-contains (λ y. test y ≡ true) _ x (filter_passes test xs) h,
)

pub contains-filter : {X : Type 0} (test : X → Bool) (xs : List X) (x : X) → Contains xs x → test x ≡ true →
    Contains (filter test xs) x
contains-filter test xs x h t =
    let both = IsPermutation-filter_both test (λ y. not (test y)) (λ _. refl) xs in
    ⊎_elim (λ k. k) (λ k. (let off = rw t at (filter-contains (λ y. not (test y)) xs x k).1 in cc))
    (Contains-append_cases _ _ x (Contains-permutation _ _ x both h))

-- what one worker did is among what all did, and what it did is its own
by_worker-is : {X : Type 0} (worker : ℕ) (entries : List (ℕ × X)) →
    by_worker worker entries ≡ by_all (filter (λ (entry : ℕ × X). entry.0 == worker) entries)
by_worker-is worker [] = refl
by_worker-is worker (entry ∷ entries) = grind (arith, by_worker-is worker entries)

pub own-all : {X : Type 0} (worker : ℕ) (entries : List (ℕ × X)) (x : X) → Contains (by_worker worker entries) x →
    Contains (by_all entries) x
own-all worker entries x h =
    let (entry, among, is) = map-contains _ _ x (rw (by_worker-is worker entries) at h) in
    rw is at (contains-map (λ e. e.1) entries entry (filter-contains _ entries entry among).0)

pub contains-own : {X : Type 0} (worker : ℕ) (entries : List (ℕ × X)) (x : X) → Contains entries (worker, x) →
    Contains (by_worker worker entries) x
contains-own worker entries x h = rw (by_worker-is worker entries)
    (contains-map (λ e. e.1) _ (worker, x) (contains-filter _ entries (worker, x) h (eq-eqb worker worker refl)))

-- elements that pass a test, counted
module _ {X : Type 0} (test : X → Bool) where
  pub count-cons : (x : X) (xs : List X) → count_by test (x ∷ xs) ≡ (if test x then 1 else 0) + count_by test xs
  count-cons x xs = sum_by-cons (λ (y : X). if test y then 1 else 0) x xs

  pub count-some : (xs : List X) → 0 < count_by test xs → (x : X) × Contains xs x × (test x ≡ true)
  count-some xs h = first-of _ (omega (arith, length-filter test xs)) refl where
    first-of : (ys : List X) → 0 < length ys → filter test xs ≡ ys → (x : X) × Contains xs x × (test x ≡ true)
    first-of [] lt is = absurd (omega arith)
    first-of (x ∷ ys) lt is =
        (let (among, passes) = filter-contains test xs x (rw is (contains-here x ys)) in (x, among, passes))

  pub some-count : (xs : List X) (x : X) → Contains xs x → test x ≡ true → 0 < count_by test xs
  some-count xs x h t = omega (arith, length-filter test xs, (contains-filter test xs x h t).1)

-- putting in order keeps the elements
put-here : (x : Finding) (ys : List Finding) → Contains (put_by comes_after x ys) x
put-here x [] = contains-here x []
put-here x (y ∷ ys) = cond_both (comes_after x y) _ _ (λ zs. Contains zs x)
    (λ _. contains-later y _ x (put-here x ys)) (λ _. contains-here x (y ∷ ys))

pub contains-in_order : (xs : List Finding) (z : Finding) → Contains xs z → Contains (in_order xs) z
contains-in_order xs z h =
    let (front, back, is) = contains-apart xs z h in
    subst (λ zs. Contains zs z) (in_order-permutation _ _ (IsPermutation-middle front z back) ∙ ap in_order (sym is))
    (put-here z (in_order (front ++ back)))

pub in_order-contains : (xs : List Finding) (z : Finding) → Contains (in_order xs) z → Contains xs z
in_order-contains xs z h =
    let each = each-in_order (Contains xs) xs (recursion_from_All (Contains xs) xs (All-contains_itself xs)) in
    All-contains (Contains xs) _ z (All-from_recursion (Contains xs) _ each) h
