-- What is shown of findings joined and put in order.
use Rattle.std.proofs.Common.{Bool, List, [], arith, false, filter, refl, ◌++◌, ◌∷◌, ◌≡◌, if◌then◌else◌}
use Rattle.std.proofs.lemmas.List.Elements.{filter-append}
use Rattle.std.specs.List.{flat_map}
use Rattle.audit_terms.proofs.FindingOrder.{comes_after_is}
use Rattle.audit_terms.proofs.OrderedLists.{IsAfter, IsInOrder, NoneBefore, in_order-ordered, put-front}
use Rattle.audit_terms.specs.{Order.ordered_by, Order.put_by, declared.findings.Finding.Finding}
use Rattle.audit_terms.specs.Finding.{comes_after, in_order, is_shown, shown}

-- ---- of lists joined

pub shown-append : (frames_shown : Bool) (xs ys : List Finding) →
    shown frames_shown (xs ++ ys) ≡ shown frames_shown xs ++ shown frames_shown ys
shown-append frames_shown xs ys = filter-append (is_shown frames_shown) xs ys

pub shown-flat_map : {X : Type 0} (frames_shown : Bool) (f : X → List Finding) (xs : List X) →
    shown frames_shown (flat_map f xs) ≡ flat_map (λ x. shown frames_shown (f x)) xs
shown-flat_map frames_shown f [] = refl
shown-flat_map frames_shown f (x ∷ xs) =
    grind (arith, shown-append frames_shown (f x) (flat_map f xs), shown-flat_map frames_shown f xs)

-- ---- of findings in order

-- of elements in order, and those that pass a test
module _ {X : Type 0} (after : X → X → Bool) (o : IsAfter after) (is_kept : X → Bool) where
  none-below : (x y : X) (zs : List X) → after x y ≡ false → NoneBefore after o y zs → NoneBefore after o x zs
  none-below x y [] p h = tt
  none-below x y (z ∷ zs) p h =
      let above = o.above x y z in
      let rest = none-below x y zs p h.1 in grind arith

  none-kept : (x : X) (ys : List X) → NoneBefore after o x ys → NoneBefore after o x (filter is_kept ys)
  none-kept x [] h = tt
  none-kept x (y ∷ ys) h = grind (arith, none-kept x ys h.1)

  put-kept : (x : X) (ys : List X) → IsInOrder after o ys → filter is_kept (put_by after x ys)
      ≡ (if is_kept x then put_by after x (filter is_kept ys) else filter is_kept ys)
  put-kept x [] h = grind arith
  put-kept x (y ∷ ys) h =
      grind (arith, none-kept, none-below, put-kept x ys h.1, put-front after o x (filter is_kept (y ∷ ys)), h.0, h.1)

  kept-ordered : (xs : List X) → ordered_by after (filter is_kept xs) ≡ filter is_kept (ordered_by after xs)
  kept-ordered [] = refl
  kept-ordered (x ∷ xs) =
      grind (arith, put-kept x (ordered_by after xs) (in_order-ordered after o xs), kept-ordered xs)

-- what is shown of findings in order is in order
pub in_order-shown : (frames_shown : Bool) (xs : List Finding) →
    in_order (shown frames_shown xs) ≡ shown frames_shown (in_order xs)
in_order-shown frames_shown xs = kept-ordered comes_after comes_after_is (is_shown frames_shown) xs
