-- Where timed findings end: where their findings do.
use Rattle.std.{proofs.lemmas.Bool.Decides.nat_tests, specs.List.position, specs.List.position_or_len}
use Rattle.std.proofs.Common.{List, None, Some, [], arith, length, map, refl, suc, take, take_all, ℕ, ◌+◌, ◌∷◌, ◌≡◌}
use Rattle.std.proofs.Common.{Bool}
use Rattle.audit_terms.specs.declared.timed_findings.TimedFinding.{TimedFinding}
use Rattle.audit_terms.specs.{Finding.stops, Finding.upto_stop, code.TimedFindings.finding_in}

abbrev is_stop : TimedFinding → Bool
is_stop one = stops (finding_in one)

abbrev kept : List TimedFinding → ℕ
kept xs = length (upto_stop (map finding_in xs))

-- those up to the first that stops are as many as their findings
timed-take : (xs : List TimedFinding) → take (suc (position_or_len is_stop xs)) xs ≡ take (kept xs) xs
timed-take [] = refl
timed-take (x ∷ xs) =
    let next : 1 + position_or_len is_stop xs ≡ suc (position_or_len is_stop xs) = omega arith in
    grind (arith, next, timed-take xs)

-- where one stops
pub timed-found : (xs : List TimedFinding) (last : ℕ) → position is_stop xs ≡ Some last
    → take (last + 1) xs ≡ take (kept xs) xs
timed-found xs last h = grind (arith, timed-take)

-- where none stops
pub timed-none : (xs : List TimedFinding) → position is_stop xs ≡ None → xs ≡ take (kept xs) xs
timed-none xs h =
    let all = take_all (suc (position_or_len is_stop xs)) xs in
    grind (arith, nat_tests, timed-take xs)
