-- The order of findings tells all findings apart, so the lemmas on lists in order hold of findings.
use Rattle.std.proofs.Common.{List, [], ap, arith, false, suc, sym, true, ℕ, ℤ, ◌++◌, ◌+◌, ◌∙◌, ◌∷◌, ◌≡◌}
use Rattle.std.proofs.lemmas.Cmp.{int_cmp_total, int_ranked, nat_cmp_total, on_total, ranked, then_total, tied_itself}
use Rattle.std.specs.{Cmp.IsTotalOrder, List.Sorted.IsPermutation, List.Sorted.IsSortedBy}
use Rattle.std.specs.Ordering.{int_cmp, is_gt, is_lt, nat_cmp, ordering_reverse, ordering_then}
use Rattle.std.specs.declared.cmp.Ordering.{Ordering, TheVariants.Equal, TheVariants.Less}
use Rattle.audit_terms.proofs.OrderedLists.{IsAfter, IsRising, in_order-rising, ordered-alike, ordered-append_comm}
use Rattle.audit_terms.proofs.OrderedLists.{ordered-in_order, ordered-left, ordered-ordered, ordered-permutation}
use Rattle.audit_terms.specs.{Kind.rank_of, Side.side_order, contracts.kinds.Kind.the_type}
use Rattle.audit_terms.specs.Finding.{comes_after, finding_cmp, in_order}
use Rattle.audit_terms.specs.declared.{findings.Finding.Finding, kinds.Kind.Kind, sides.Side.Side}
use denote.Enum.{Bare.tag_one, Declared.tag_of}

pub finding_total : IsTotalOrder finding_cmp
finding_total =
    then_total (on_total (λ (found : Finding). found.place) nat_cmp_total)
    (then_total (on_total (λ (found : Finding). side_order found.side) nat_cmp_total)
    (then_total (on_total (λ (found : Finding). rank_of found.kind) nat_cmp_total)
    (on_total (λ (found : Finding). found.value) int_cmp_total)))

pub nat_level : (x y : ℕ) → nat_cmp x y ≡ Equal → x ≡ y
nat_level x y e = ranked x y Equal (sym e)

int_level : (x y : ℤ) → int_cmp x y ≡ Equal → x ≡ y
int_level x y e = int_ranked x y Equal (sym e)

side_level : (x y : Side) → side_order x ≡ side_order y → x ≡ y
side_level x y e = grind arith

-- the rank is the kind's place in its type
rank-tag : (kind : Kind) → tag_of the_type kind ≡ rank_of kind
rank-tag kind = grind arith

kind_level : (x y : Kind) → rank_of x ≡ rank_of y → x ≡ y
kind_level x y e = tag_one the_type tt x y (rank-tag x ∙ e ∙ sym (rank-tag y))

all_equal : (a b c d : Ordering) → ordering_then a (ordering_then b (ordering_then c d)) ≡ Equal →
    (a ≡ Equal) × (b ≡ Equal) × (c ≡ Equal) × (d ≡ Equal)
all_equal a b c d e = grind arith

same_fields : (x y : Finding) → x.place ≡ y.place → x.side ≡ y.side → x.kind ≡ y.kind → x.value ≡ y.value → x ≡ y
same_fields x y p s k v = grind arith

-- two findings that the order does not tell apart are one
pub finding_level : (x y : Finding) → finding_cmp x y ≡ Equal → x ≡ y
finding_level x y e =
    let all = all_equal (nat_cmp x.place y.place) (nat_cmp (side_order x.side) (side_order y.side))
    (nat_cmp (rank_of x.kind) (rank_of y.kind)) (int_cmp x.value y.value) e in
    same_fields x y (nat_level _ _ all.0) (side_level _ _ (nat_level _ _ all.1)) (kind_level _ _ (nat_level _ _ all.2))
    (int_level _ _ all.3)

-- what comes after one that another does not come after comes after that other one
above : (x y z : Finding) → comes_after x z ≡ true → comes_after y z ≡ false → comes_after x y ≡ true
above x y z = by_order (finding_cmp y x) (finding_cmp x y) (finding_cmp x z) (finding_cmp z x) (finding_cmp y z)
    (finding_total.antisymm x y) (finding_total.antisymm z x) (finding_total.trans y z x)
    (finding_total.congr y z x) where
      by_order : (yx xy xz zx yz : Ordering) → xy ≡ ordering_reverse yx → zx ≡ ordering_reverse xz
          → (yz ≡ Less → zx ≡ Less → yx ≡ Less) → (yz ≡ Equal → yx ≡ zx)
          → is_gt xz ≡ true → is_gt yz ≡ false → is_gt xy ≡ true
      by_order yx xy xz zx yz a b trans congr p q = grind arith

not_back : (a b : Ordering) → a ≡ ordering_reverse b → is_gt a ≡ true → is_gt b ≡ false
not_back a b e h = grind arith

both_not : (a b : Ordering) → a ≡ ordering_reverse b → is_gt a ≡ false → is_gt b ≡ false → a ≡ Equal
both_not a b e p q = grind arith

pub comes_after_is : IsAfter comes_after
comes_after_is = record {
  not_self = λ x. ap is_gt (tied_itself finding_total x);
  one_way = λ x y. not_back _ _ (finding_total.antisymm x y);
  level = λ x y p q. finding_level x y (both_not _ _ (finding_total.antisymm x y) p q);
  above = above;
}

-- the lemmas on lists in order, of findings
pub in_order-append_left : (xs ys : List Finding) → in_order (in_order xs ++ ys) ≡ in_order (xs ++ ys)
in_order-append_left = ordered-left comes_after comes_after_is

pub in_order-append_comm : (xs ys : List Finding) → in_order (xs ++ ys) ≡ in_order (ys ++ xs)
in_order-append_comm = ordered-append_comm comes_after comes_after_is

pub in_order-alike : (xs ys us vs : List Finding) → in_order xs ≡ in_order ys → in_order us ≡ in_order vs →
    in_order (xs ++ us) ≡ in_order (ys ++ vs)
in_order-alike = ordered-alike comes_after comes_after_is

pub in_order-in_order : (xs : List Finding) → in_order (in_order xs) ≡ in_order xs
in_order-in_order = ordered-ordered comes_after comes_after_is

pub in_order-permutation : (xs ys : List Finding) → IsPermutation xs ys → in_order ys ≡ in_order xs
in_order-permutation = ordered-permutation comes_after comes_after_is

-- what a sort by the order of findings leaves
not_less : (a b : Ordering) → a ≡ ordering_reverse b → is_lt b ≡ false → is_gt a ≡ false
not_less a b e h = grind arith

rising-from_sorted : (xs : List Finding) → IsSortedBy (λ x y. is_lt (finding_cmp x y)) xs
    → IsRising comes_after comes_after_is xs
rising-from_sorted [] h = tt
rising-from_sorted (x ∷ []) h = tt
rising-from_sorted (x ∷ y ∷ ys) h =
    let first = h 0 x (omega arith) (omega arith) in (
      not_less _ _ (finding_total.antisymm x y) first,
      rising-from_sorted (y ∷ ys) (λ k d p q.
          let e : suc k + 1 ≡ suc (k + 1) = omega arith in rw e at (h (suc k) d (omega arith) (omega arith))),
    )

pub in_order-sorted : (old new : List Finding) → IsPermutation old new
    → IsSortedBy (λ x y. is_lt (finding_cmp x y)) new → new ≡ in_order old
in_order-sorted old new p h =
    sym (ordered-in_order comes_after comes_after_is new
    (in_order-rising comes_after comes_after_is new (rising-from_sorted new h))) ∙ in_order-permutation old new p
