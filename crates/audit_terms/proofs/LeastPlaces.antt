-- The least of some places, and the first error of the connection among findings.
use Rattle.audit_terms.specs.{Finding.stops, declared.findings.Finding.Finding}
use Rattle.audit_terms.specs.code.Stops.{IsFirstStop, IsLeast, StopsAt, lesser_place}
use Rattle.std.proofs.Common.{List, None, Option, Some, [], ap, arith, if◌then◌else◌, inl, inr, refl, true, ℕ}
use Rattle.std.proofs.Common.{⊎_elim, ◌++◌, ◌∙◌, ◌∷◌, ◌≡◌, ◌≤◌, ◌⊎◌}
use Rattle.std.proofs.lemmas.Bool.{cond_both}
use Rattle.std.proofs.lemmas.List.Elements.{Contains-append_left, Contains-push, Contains-push_cases}

-- the least of places, where there is one
pub least-some : (Holds : ℕ → Type 0) (stop : Option ℕ) (place : ℕ) → IsLeast Holds stop → Holds place
    → (least : ℕ) × (stop ≡ Some least) × Holds least × ((q : ℕ) → Holds q → least ≤ q)
least-some Holds None place h k = absurd (h place k)
least-some Holds (Some least) place h k = (least, refl, h.0, h.1)

-- the least of some places and one more
pub least-more : (Holds Holds' : ℕ → Type 0) (stop : Option ℕ) (place : ℕ) → ((q : ℕ) → Holds q → Holds' q)
    → Holds' place → ((q : ℕ) → Holds' q → (place ≡ q) ⊎ Holds q) → IsLeast Holds stop
    → IsLeast Holds' (lesser_place stop (Some place))
least-more Holds Holds' None place more here back h = (here, λ q k. grind (arith, back q k, h q))
least-more Holds Holds' (Some stop) place more here back h =
    (grind (arith, more stop h.0, here), λ q k. grind (arith, back q k, h.1 q))

-- the least of some places is that of others, where at or before each of the ones there is one of the others
pub least-moves : (Holds Holds' : ℕ → Type 0) (stop : Option ℕ)
    → ((q : ℕ) → Holds q → (least : ℕ) × (least ≤ q) × Holds' least)
    → ((q : ℕ) → Holds' q → (least : ℕ) × (least ≤ q) × Holds least) → IsLeast Holds stop → IsLeast Holds' stop
least-moves Holds Holds' None to from h = λ q k. let f = from q k in h f.0 f.2
least-moves Holds Holds' (Some least) to from h =
    let above : (q : ℕ) → Holds' q → least ≤ q
    = λ q k. (let (p, low, is) = from q k in let l = h.1 p is in omega arith) in
    let (first, low, is) = to least h.0 in
    let same : first ≡ least = omega (arith, above first is) in
    (rw same at is, above)

-- the first error of no finding
pub first-none : IsFirstStop [] None
first-none place (found, among, stopping, at) = absurd (omega arith)

-- that of one finding more
pub first-more : (xs : List Finding) (x : Finding) (stop : Option ℕ) → IsFirstStop xs stop
    → IsFirstStop (xs ++ x ∷ []) (if stops x then lesser_place stop (Some x.place) else stop)
first-more xs x stop h =
    cond_both (stops x) _ _ (IsFirstStop (xs ++ x ∷ []))
    (λ e. least-more (StopsAt xs) (StopsAt (xs ++ x ∷ [])) stop x.place before (x, Contains-push xs x, e, refl)
    (λ place k. ⊎_elim (λ old. inr old) (λ new. inl new.1) (one-of place k)) h)
    (λ e. least-moves (StopsAt xs) (StopsAt (xs ++ x ∷ [])) stop (λ place k. (place, omega arith, before place k))
    (λ place k. (place, omega arith, ⊎_elim (λ old. old) (λ new. absurd (let s = new.0 in cc)) (one-of place k))) h)
  where
    before : (place : ℕ) → StopsAt xs place → StopsAt (xs ++ x ∷ []) place
    before place (one, there, stopping, at) = (one, Contains-append_left xs (x ∷ []) one there, stopping, at)

    one-of : (place : ℕ) → StopsAt (xs ++ x ∷ []) place → StopsAt xs place ⊎ ((stops x ≡ true) × (x.place ≡ place))
    one-of place (one, there, stopping, at) = ⊎_elim (λ old. inl (one, old, stopping, at))
        (λ e. inr (ap stops e ∙ stopping, ap (λ (found : Finding). found.place) e ∙ at))
        (Contains-push_cases xs x one there)
