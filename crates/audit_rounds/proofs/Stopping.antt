-- Where the findings of several lists stop.
use Rattle.audit_rounds.proofs.Words.{◌≡◌, ℕ, ◌+◌, ◌<◌, ◌++◌, ◌∷◌, [], ◌∙◌, ◌⊎◌, ap, arith, List, Vec, Global, Option}
use Rattle.audit_rounds.proofs.Words.{Some, None, ⊎_elim, inl, inr, flat_map, take, get_or, length, flat_map-append}
use Rattle.audit_rounds.proofs.Words.{take_more, append-nil, Contains-append_left, Finding, IsFirstStop, IsLeast}
use Rattle.audit_rounds.proofs.Words.{StopsAt, lesser_place}
use Rattle.std.proofs.lemmas.List.Elements.{Contains-append_cases, Contains-append_right}

-- the findings of one list more
pub one-more : (lists : List (Vec Finding Global)) (i : ℕ) (list : Vec Finding Global) → i < length lists
    → list ≡ get_or lists i list → flat_map (λ (one : Vec Finding Global). one.items) (take (i + 1) lists)
    ≡ flat_map (λ (one : Vec Finding Global). one.items) (take i lists) ++ list.items
one-more lists i list l is =
    rw (take_more lists i list l, ← is) (flat_map-append (λ (one : Vec Finding Global). one.items) (take i lists)
    (list ∷ []) ∙ ap (λ l. flat_map (λ (one : Vec Finding Global). one.items) (take i lists) ++ l)
    (append-nil list.items))

-- the least of the places of either of two kinds
least-both : (One Other Both : ℕ → Type 0) (one other : Option ℕ) → ((q : ℕ) → One q → Both q)
    → ((q : ℕ) → Other q → Both q) → ((q : ℕ) → Both q → One q ⊎ Other q) → IsLeast One one
    → IsLeast Other other → IsLeast Both (lesser_place one other)
least-both One Other Both None None from from' back h k = λ q b. ⊎_elim (h q) (k q) (back q b)
least-both One Other Both None (Some other) from from' back h k =
    (from' other k.0, λ q b. ⊎_elim (λ o. absurd (h q o)) (k.1 q) (back q b))
least-both One Other Both (Some one) None from from' back h k =
    (from one h.0, λ q b. ⊎_elim (h.1 q) (λ o. absurd (k q o)) (back q b))
least-both One Other Both (Some one) (Some other) from from' back h k =
    (grind (arith, from one h.0, from' other k.0), λ q b. grind (arith, back q b, h.1 q, k.1 q))

-- the first stop of two lists is the lesser of theirs
pub first-both : (xs ys : List Finding) (one other : Option ℕ) → IsFirstStop xs one → IsFirstStop ys other
    → IsFirstStop (xs ++ ys) (lesser_place one other)
first-both xs ys one other =
    least-both (StopsAt xs) (StopsAt ys) (StopsAt (xs ++ ys)) one other
    (λ q (found, there, stopping, at). (found, Contains-append_left xs ys found there, stopping, at))
    (λ q (found, there, stopping, at). (found, Contains-append_right xs ys found there, stopping, at))
    (λ q (found, there, stopping, at). ⊎_elim (λ l. inl (found, l, stopping, at)) (λ r. inr (found, r, stopping, at))
    (Contains-append_cases xs ys found there))
