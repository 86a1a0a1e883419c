-- Two runs in order, merged, are all their elements in order.
use Rattle.audit_terms.proofs.FindingOrder.{comes_after_is, in_order-append_left}
use Rattle.audit_terms.proofs.OrderedLists.{IsAfter, IsInOrder, NoneBefore, in_order-ordered, ordered-append, put_all}
use Rattle.audit_terms.specs.{Order.put_by, declared.findings.Finding.Finding}
use Rattle.itertools.specs.List.{merge_by}
use Rattle.split_merge.proofs.Merged.{items_of}
use Rattle.split_merge.proofs.Terms.{Bool, List, [], ap, arith, comes_after, drop, flat_map, in_order, not, refl, sym}
use Rattle.split_merge.proofs.Terms.{take, ℕ, ◌++◌, ◌∙◌, ◌∷◌, ◌≡◌}
use Rattle.std.proofs.lemmas.{Grind.flat_map-append, List.take-append-drop}
use Rattle.std.specs.{Global.Global, Prelude.Vec}

module _ {X : Type 0} (after : X → X → Bool) (o : IsAfter after) where
  -- does x go first of the two?
  abbrev is_first : X → X → Bool
  is_first x y = not (after x y)

  -- an element that stands before all of its run is put in
  merge-put : (x : X) (xs : List X) → NoneBefore after o x xs → (ys : List X)
      → merge_by is_first (x ∷ xs) ys ≡ put_by after x (merge_by is_first xs ys)
  merge-put x [] h [] = refl
  merge-put x [] h (y ∷ ys) = grind (arith, merge-put x [] tt ys)
  merge-put x (z ∷ xs) h [] = rw h.0 refl
  merge-put x (z ∷ xs) h (y ∷ ys) = grind (arith, merge-put x (z ∷ xs) h ys, h.0, o.above x z y)

  -- so all of a run in order are put in
  merge-all : (xs ys : List X) → IsInOrder after o xs → merge_by is_first xs ys ≡ put_all after o xs ys
  merge-all [] ys h = refl
  merge-all (x ∷ xs) ys h = merge-put x xs h.0 ys ∙ ap (put_by after x) (merge-all xs ys h.1)

-- of two lists of findings that are put in order
pub merge-in_order : (xs ys : List Finding)
    → merge_by (λ x y. not (comes_after x y)) (in_order xs) (in_order ys) ≡ in_order (xs ++ ys)
merge-in_order xs ys =
    merge-all comes_after comes_after_is (in_order xs) (in_order ys) (in_order-ordered comes_after comes_after_is xs)
    ∙ sym (ordered-append comes_after comes_after_is (in_order xs) ys) ∙ in_order-append_left xs ys

-- of lists, those of a front and those of the rest
pub merge-parts : (lists front back : List (Vec Finding Global)) (k : ℕ) (one other : List Finding)
    → front ≡ take k lists → back ≡ drop k lists → one ≡ in_order (flat_map items_of front)
    → other ≡ in_order (flat_map items_of back)
    → merge_by (λ x y. not (comes_after x y)) one other ≡ in_order (flat_map items_of lists)
merge-parts lists front back k one other f b p q =
    rw (p, q, f, b) (merge-in_order (flat_map items_of (take k lists)) (flat_map items_of (drop k lists))
    ∙ ap in_order (sym (flat_map-append items_of (take k lists) (drop k lists))
    ∙ ap (flat_map items_of) (take-append-drop k lists)))
