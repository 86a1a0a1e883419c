-- Cuts of lists in order, cuts put together, and what joins findings that are cut at their stop.
use Rattle.audit_terms.proofs.FindingOrder.{comes_after_is, in_order-append_comm, in_order-in_order}
use Rattle.audit_terms.proofs.FindingOrder.{in_order-append_left, in_order-permutation}
use Rattle.audit_terms.proofs.OrderedLists.{IsInOrder, NoneBefore, in_order-ordered, ordered-in_order}
use Rattle.stop_desk.{proofs.RoundMerge.leaves-both, specs.code.Board.IsCut, specs.code.Board.IsPast}
use Rattle.stop_desk.proofs.{RoundMembers.contains-none, RoundMembers.filter-contains, RoundMerge.Leaves}
use Rattle.stop_desk.proofs.Words.{Bool, List, [], ap, arith, false, not, refl, sym, true, ℕ, ◌++◌, ◌∙◌, ◌∷◌, ◌≡◌}
use Rattle.stop_desk.proofs.Words.{Finding, Option, filter, in_order, leb-false, nat_le, not-true, put_by, stops, subst}
use Rattle.stop_desk.proofs.Words.{IsPermutation-filter_both, append-nil, comes_after, if◌then◌else◌, upto_stop}
use Rattle.stop_desk.specs.laws.Cuts.{CutsJoin, FrontIsCut, StopsJoin, WholeIsCut}

-- a filter keeps the order
module _ (test : Finding → Bool) where
  none_before-filter : (x : Finding) (ys : List Finding) → NoneBefore comes_after comes_after_is x ys →
      NoneBefore comes_after comes_after_is x (filter test ys)
  none_before-filter x [] h = tt
  none_before-filter x (y ∷ ys) h = grind (arith, none_before-filter x ys, h)

  in_order-filter : (xs : List Finding) → IsInOrder comes_after comes_after_is xs →
      IsInOrder comes_after comes_after_is (filter test xs)
  in_order-filter [] h = tt
  in_order-filter (x ∷ xs) h = grind (arith, in_order-filter xs, none_before-filter x xs, h)

pub front_is_cut_lem : FrontIsCut
front_is_cut_lem whole upto e =
    let before = λ (found : Finding). nat_le found.place upto in
    let past = λ (found : Finding). not (nat_le found.place upto) in record {
      ordered =
          ordered-in_order comes_after comes_after_is (filter before whole) (in_order-filter before whole
          (subst (IsInOrder comes_after comes_after_is) e (in_order-ordered comes_after comes_after_is whole)));
      left_out = filter past whole;
      together =
          in_order-permutation whole (filter before whole ++ filter past whole)
          (IsPermutation-filter_both before past (λ found. refl) whole);
      past = λ found h.
          leb-false found.place upto (not-true (nat_le found.place upto) (filter-contains past whole found h).1);
    }

pub whole_is_cut_lem : WholeIsCut
whole_is_cut_lem whole upto e = record {
  ordered = e;
  left_out = [];
  together = ap in_order (append-nil whole);
  past = λ found h. absurd (contains-none found h);
}

-- what a cut leaves out, where it lies past another place
leaves : (whole kept : List Finding) (upto upto' : Option ℕ) → ((place : ℕ) → IsPast upto place → IsPast upto' place) →
    IsCut whole upto kept → Leaves (λ found. IsPast upto' found.place) kept whole
leaves whole kept upto upto' past h =
    record { left_out = h.left_out; together = h.together; beyond = λ found k. past found.place (h.past found k) }

pub cuts_join_lem : CutsJoin
cuts_join_lem one other kept_of_one kept_of_other upto upto_of_one upto_of_other h k before before' =
    let both = leaves-both kept_of_one one kept_of_other other (leaves one kept_of_one upto_of_one upto before h)
    (leaves other kept_of_other upto_of_other upto before' k) in record {
      ordered = in_order-in_order (kept_of_one ++ kept_of_other);
      left_out = both.left_out;
      together = in_order-append_left (kept_of_one ++ kept_of_other) both.left_out ∙ both.together;
      past = both.beyond;
    }

-- what is cut stays so
cut-again : (xs : List Finding) → upto_stop (upto_stop xs) ≡ upto_stop xs
cut-again [] = refl
cut-again (x ∷ xs) = grind (arith, cut-again xs)

-- one finding joins a list that is cut already
put-cut : (x : Finding) (ys : List Finding) →
    upto_stop (put_by comes_after x ys) ≡ upto_stop (put_by comes_after x (upto_stop ys))
put-cut x [] = refl
put-cut x (y ∷ ys) = by_tests _ _ refl refl (put-cut x ys) where
  by_tests : (b s : Bool) → comes_after x y ≡ b → stops y ≡ s →
      upto_stop (put_by comes_after x ys) ≡ upto_stop (put_by comes_after x (upto_stop ys)) →
      upto_stop (put_by comes_after x (y ∷ ys)) ≡ upto_stop (put_by comes_after x (upto_stop (y ∷ ys)))
  by_tests true true p q ih = simp (p, q)
  by_tests true false p q ih = simp (p, q) (ap (λ zs. y ∷ zs) ih)
  by_tests false true p q ih = simp (p, q)
  by_tests false false p q ih = simp (p, q) (ap (λ zs. if stops x then x ∷ [] else x ∷ y ∷ zs) (sym (cut-again ys)))

joined-before : (more one other : List Finding) → upto_stop (in_order one) ≡ upto_stop (in_order other) →
    upto_stop (in_order (more ++ one)) ≡ upto_stop (in_order (more ++ other))
joined-before [] one other e = e
joined-before (x ∷ more) one other e =
    put-cut x (in_order (more ++ one)) ∙ ap (λ us. upto_stop (put_by comes_after x us)) (joined-before more one other e)
    ∙ sym (put-cut x (in_order (more ++ other)))

pub stops_join_lem : StopsJoin
stops_join_lem one other more e =
    ap upto_stop (in_order-append_comm one more) ∙ joined-before more one other e
    ∙ ap upto_stop (in_order-append_comm more other)
