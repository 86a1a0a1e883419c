-- Findings in ranges: fronts and backs of slices side by side, and what stands one after the other.
use Rattle.audit_terms.proofs.FindingOrder.{comes_after_is, in_order-alike, in_order-append_comm}
use Rattle.audit_terms.proofs.OrderedLists.{IsInOrder, IsRising, NoneBefore, in_order-ordered, in_order-rising}
use Rattle.audit_terms.proofs.OrderedLists.{ordered-in_order}
use Rattle.audit_terms.specs.Finding.{stops}
use Rattle.audit_terms.specs.Order.{put_by}
use Rattle.audit_terms.specs.declared.findings.Finding.{Finding}
use Rattle.split_merge.proofs.Terms.{List, [], append-nil, ap, append_assoc, comes_after, drop, drop_more, get_or}
use Rattle.split_merge.proofs.Terms.{flat_map, Some, in_order, Bool, true, false, arith, subst, upto_stop}
use Rattle.split_merge.proofs.Terms.{if◌then◌else◌}
use Rattle.split_merge.proofs.Terms.{length, refl, sym, take, ℕ, ◌+◌, ◌++◌, ◌<◌, ◌∙◌, ◌∷◌, ◌≡◌}
use Rattle.split_merge.specs.code.Findings.{findings_in}
use Rattle.split_merge.specs.code.Ranges.{AreInTurn, AreMerged, BeginsWith, EndsWith, all_in}
use Rattle.split_merge.specs.declared.findings.Findings.{Findings}
use Rattle.std.specs.Global.{Global}
use Rattle.std.specs.Prelude.{Vec}
use Rattle.std.proofs.lemmas.{Grind.flat_map-append, List.take-append-drop}
use denote.Ref.{Bor}

-- ---- slices, each in two

-- the front of one slice more stands behind the fronts, and its back behind the backs
parted-more : (fronts backs front back rest : List Finding)
    → in_order (((fronts ++ front) ++ (backs ++ back)) ++ rest)
    ≡ in_order ((fronts ++ backs) ++ ((front ++ back) ++ rest))
parted-more fronts backs front back rest =
    let swapped = in_order-alike (front ++ backs) (backs ++ front) (back ++ rest) (back ++ rest)
    (in_order-append_comm front backs) refl in
    let here : ((fronts ++ front) ++ (backs ++ back)) ++ rest ≡ fronts ++ ((front ++ backs) ++ (back ++ rest)) =
    simp append_assoc in
    let there : (fronts ++ backs) ++ ((front ++ back) ++ rest) ≡ fronts ++ ((backs ++ front) ++ (back ++ rest)) =
    simp append_assoc in
    ap in_order here
    ∙ in_order-alike fronts fronts ((front ++ backs) ++ (back ++ rest))
    ((backs ++ front) ++ (back ++ rest)) refl swapped
    ∙ ap in_order (sym there)

one-more : (before after : List (Bor (List Finding))) (slice : Bor (List Finding)) → after ≡ before ++ slice ∷ []
    → all_in after ≡ all_in before ++ slice.now
one-more before after slice e =
    rw e (flat_map-append (λ (one : Bor (List Finding)). one.now) before (slice ∷ [])
    ∙ ap (λ l. all_in before ++ l) (append-nil slice.now))

pub parted-next : (slices fronts backs fronts' backs' : List (Bor (List Finding))) (i k : ℕ)
    (slice front back : Bor (List Finding)) → i < length slices → slice ≡ get_or slices i slice
    → fronts' ≡ fronts ++ front ∷ [] → backs' ≡ backs ++ back ∷ [] → front.now ≡ take k slice.now
    → back.now ≡ drop k slice.now
    → in_order ((all_in fronts ++ all_in backs) ++ all_in (drop i slices)) ≡ in_order (all_in slices)
    → in_order ((all_in fronts' ++ all_in backs') ++ all_in (drop (i + 1) slices)) ≡ in_order (all_in slices)
parted-next slices fronts backs fronts' backs' i k slice front back l there fe be f b so_far =
    let rest = all_in (drop (i + 1) slices) in
    let next : all_in (drop i slices) ≡ slice.now ++ rest = rw (drop_more slices i slice l, ← there) refl in
    let whole : front.now ++ back.now ≡ slice.now = rw (f, b) (take-append-drop k slice.now) in
    let left : (front.now ++ back.now) ++ rest ≡ all_in (drop i slices) =
    ap (λ one. one ++ rest) whole ∙ sym next in
    rw (one-more fronts fronts' front fe, one-more backs backs' back be)
    (parted-more (all_in fronts) (all_in backs) front.now back.now rest
    ∙ ap (λ l. in_order ((all_in fronts ++ all_in backs) ++ l)) left ∙ so_far)

-- ---- the first of all findings, and the last

abbrev pub items_of : Vec Finding Global → List Finding
items_of list = list.items

pub begins : (found : Findings) (list : Vec Finding Global) (lists : List (Vec Finding Global)) (one first : Finding)
    (rest : List Finding) → found.lists.items ≡ list ∷ lists → list.items ≡ one ∷ rest → Some one ≡ Some first
    → BeginsWith (findings_in found) first
begins found list lists one first rest e f same =
    let is : one ≡ first = cc in (rest ++ flat_map items_of lists, rw (e, f, is) refl)

pub ends : (found : Findings) (list : Vec Finding Global) (lists : List (Vec Finding Global)) (one last : Finding)
    (front : List Finding) → found.lists.items ≡ lists ++ list ∷ [] → list.items ≡ front ++ one ∷ []
    → Some one ≡ Some last → EndsWith (findings_in found) last
ends found list lists one last front e f same =
    let is : one ≡ last = cc in
    let whole : findings_in found ≡ flat_map items_of lists ++ list.items =
    ap (flat_map items_of) e ∙ flat_map-append items_of lists (list ∷ [])
    ∙ ap (λ l. flat_map items_of lists ++ l) (append-nil list.items) in
    let before = flat_map items_of lists in
    (before ++ front, rw (whole, f, is) (sym (append_assoc before front (last ∷ []))))

-- ---- what is merged

-- findings in order, up to the least that stops
abbrev pub merged : List Finding → List Finding
merged xs = upto_stop (in_order xs)

cut-again : (xs : List Finding) → upto_stop (upto_stop xs) ≡ upto_stop xs
cut-again [] = refl
cut-again (x ∷ xs) = grind (arith, cut-again xs)

-- one finding joins those that are cut already
put-cut : (x : Finding) (ys : List Finding) →
    upto_stop (put_by comes_after x ys) ≡ upto_stop (put_by comes_after x (upto_stop ys))
put-cut x [] = refl
put-cut x (y ∷ ys) = by_tests _ _ refl refl (put-cut x ys) where
  by_tests : (b s : Bool) → comes_after x y ≡ b → stops y ≡ s →
      upto_stop (put_by comes_after x ys) ≡ upto_stop (put_by comes_after x (upto_stop ys)) →
      upto_stop (put_by comes_after x (y ∷ ys)) ≡ upto_stop (put_by comes_after x (upto_stop (y ∷ ys)))
  by_tests true true p q ih = simp (p, q)
  by_tests true false p q ih = simp (p, q) (ap (λ zs. y ∷ zs) ih)
  by_tests false true p q ih = simp (p, q)
  by_tests false false p q ih = simp (p, q) (ap (λ zs. if stops x then x ∷ [] else x ∷ y ∷ zs) (sym (cut-again ys)))

-- whatever is merged to the same may stand behind others
merged-behind : (xs ys zs : List Finding) → merged ys ≡ merged zs → merged (xs ++ ys) ≡ merged (xs ++ zs)
merged-behind [] ys zs e = e
merged-behind (x ∷ xs) ys zs e =
    put-cut x (in_order (xs ++ ys)) ∙ ap (λ us. upto_stop (put_by comes_after x us)) (merged-behind xs ys zs e)
    ∙ sym (put-cut x (in_order (xs ++ zs)))

none-cut : (x : Finding) (xs : List Finding) → NoneBefore comes_after comes_after_is x xs
    → NoneBefore comes_after comes_after_is x (upto_stop xs)
none-cut x [] h = tt
none-cut x (y ∷ ys) h = grind (arith, none-cut x ys h.1, h.0)

in_order-cut : (xs : List Finding) → IsInOrder comes_after comes_after_is xs
    → IsInOrder comes_after comes_after_is (upto_stop xs)
in_order-cut [] h = tt
in_order-cut (x ∷ xs) h = grind (arith, in_order-cut xs h.1, none-cut x xs h.0)

merged-ordered : (xs : List Finding) → IsInOrder comes_after comes_after_is (merged xs)
merged-ordered xs = in_order-cut (in_order xs) (in_order-ordered comes_after comes_after_is xs)

pub are-merged : (xs found : List Finding) → found ≡ merged xs → AreMerged found
are-merged xs found e =
    rw e (ap upto_stop (ordered-in_order comes_after comes_after_is (merged xs) (merged-ordered xs))
    ∙ cut-again (in_order xs))

-- parts may be merged first
pub merged-both : (xs ys one other : List Finding) → one ≡ merged xs → other ≡ merged ys
    → merged (one ++ other) ≡ merged (xs ++ ys)
merged-both xs ys one other e f =
    merged-behind one other ys (are-merged ys other f ∙ f)
    ∙ ap upto_stop (in_order-append_comm one ys)
    ∙ merged-behind ys one xs (are-merged xs one e ∙ e)
    ∙ ap upto_stop (in_order-append_comm ys xs)

-- ---- what stands one after the other

rising : (xs : List Finding) → IsInOrder comes_after comes_after_is xs → IsRising comes_after comes_after_is xs
rising [] h = tt
rising (x ∷ []) h = tt
rising (x ∷ y ∷ ys) h = (h.0.0, rising (y ∷ ys) h.1)

rising-behind : (front rest : List Finding) (last first : Finding)
    → IsRising comes_after comes_after_is (front ++ last ∷ []) → IsRising comes_after comes_after_is (first ∷ rest)
    → comes_after last first ≡ false → IsRising comes_after comes_after_is ((front ++ last ∷ []) ++ first ∷ rest)
rising-behind [] rest last first h k e = (e, k)
rising-behind (x ∷ []) rest last first h k e = (h.0, (e, k))
rising-behind (x ∷ y ∷ front) rest last first h k e = (h.0, rising-behind (y ∷ front) rest last first h.1 k e)

never-none : (front : List Finding) (last : Finding) → [] ≡ front ++ last ∷ [] → ⊥
never-none [] last e = cc
never-none (x ∷ front) last e = cc

-- those behind the last of them
cut-behind : (front later : List Finding) (last : Finding) → upto_stop (front ++ last ∷ []) ≡ front ++ last ∷ []
    → upto_stop ((front ++ last ∷ []) ++ later)
    ≡ (if stops last then front ++ last ∷ [] else (front ++ last ∷ []) ++ upto_stop later)
cut-behind [] later last e = grind arith
cut-behind (x ∷ front) later last e =
    by_test (stops x) (stops last) refl (cut-behind front later last) where
      by_test : (b s : Bool) → stops x ≡ b
          → (upto_stop (front ++ last ∷ []) ≡ front ++ last ∷ []
          → upto_stop ((front ++ last ∷ []) ++ later)
          ≡ (if s then front ++ last ∷ [] else (front ++ last ∷ []) ++ upto_stop later))
          → upto_stop (((x ∷ front) ++ last ∷ []) ++ later)
          ≡ (if s then (x ∷ front) ++ last ∷ [] else ((x ∷ front) ++ last ∷ []) ++ upto_stop later)
      by_test true s p rest =
          let same : x ∷ [] ≡ x ∷ (front ++ last ∷ []) = rw p at e in
          absurd (never-none front last (cc))
      by_test false true p rest =
          let same : x ∷ upto_stop (front ++ last ∷ []) ≡ x ∷ (front ++ last ∷ []) = rw p at e in
          rw p (ap (λ l. x ∷ l) (rest (cc)))
      by_test false false p rest =
          let same : x ∷ upto_stop (front ++ last ∷ []) ≡ x ∷ (front ++ last ∷ []) = rw p at e in
          rw p (ap (λ l. x ∷ l) (rest (cc)))

merged-is : (found : List Finding) → AreMerged found
    → IsInOrder comes_after comes_after_is found × (upto_stop found ≡ found)
merged-is found e =
    let ordered = subst (IsInOrder comes_after comes_after_is) e (merged-ordered found) in
    (ordered, ap upto_stop (sym (ordered-in_order comes_after comes_after_is found ordered)) ∙ e)

-- the findings of a range, and those of the next one behind them unless the first ends with one that stops
pub merged-in_turn : (one other : List Finding) (last : Finding) → AreMerged one → AreMerged other
    → AreInTurn one last other → (if stops last then one else one ++ other) ≡ merged (one ++ other)
merged-in_turn one other last p q ((front, ends), (first, (rest, begins), e)) =
    let (ordered, cut) = merged-is one p in
    let (ordered', cut') = merged-is other q in
    let both : IsInOrder comes_after comes_after_is (one ++ other) =
    rw (ends, begins) (in_order-rising comes_after comes_after_is ((front ++ last ∷ []) ++ first ∷ rest)
    (rising-behind front rest last first (rising (front ++ last ∷ []) (rw ends at ordered))
    (rising (first ∷ rest) (rw begins at ordered')) e)) in
    let whole : merged (one ++ other) ≡ upto_stop (one ++ other) =
    ap upto_stop (ordered-in_order comes_after comes_after_is (one ++ other) both) in
    let is : upto_stop (one ++ other) ≡ (if stops last then one else one ++ upto_stop other) =
    rw ends (cut-behind front other last (rw ends at cut)) in
    sym (whole ∙ is ∙ ap (λ us. if stops last then one else one ++ us) cut')
