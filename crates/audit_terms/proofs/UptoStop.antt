-- Where the findings end: `upto_stop` is the front of the list up to the first finding that stops.
use Rattle.std.{proofs.lemmas.Bool.Decides.nat_tests, specs.List.position, specs.List.position_or_len}
use Rattle.std.proofs.Common.{Bool, List, None, Some, [], ap, arith, false, not, refl, suc, take, take_all, true, ℕ}
use Rattle.std.proofs.Common.{◌+◌, ◌∷◌, ◌≡◌}
use Rattle.audit_terms.specs.declared.kinds.Kind.TheVariants.{ConnectionCredit, StreamCredit}
use Rattle.audit_terms.specs.declared.{findings.Finding.Finding, kinds.Kind.Kind}
use Rattle.audit_terms.specs.{Finding.is_shown, Finding.shown, Finding.stops, Finding.upto_stop}
use Rattle.audit_terms.specs.Kind.{is_connection_error, is_credit}

-- the findings up to the first that stops are the first so many
pub upto_stop-take : (xs : List Finding) → take (suc (position_or_len stops xs)) xs ≡ upto_stop xs
upto_stop-take [] = refl
upto_stop-take (x ∷ xs) =
    let next : 1 + position_or_len stops xs ≡ suc (position_or_len stops xs) = omega arith in
    grind (arith, next, upto_stop-take xs)

-- where one stops
pub upto_stop-found : (xs : List Finding) (last : ℕ) → position stops xs ≡ Some last → take (last + 1) xs ≡ upto_stop xs
upto_stop-found xs last h = grind (arith, upto_stop-take)

-- where none stops
pub upto_stop-none : (xs : List Finding) → position stops xs ≡ None → xs ≡ upto_stop xs
upto_stop-none xs h =
    let all = take_all (suc (position_or_len stops xs)) xs in
    grind (arith, nat_tests, upto_stop-take xs)

-- ---- of what is shown: a connection error always is, so the audit ends there whether credits are shown or not

error-no-credit : (kind : Kind) → is_connection_error kind ≡ true → is_credit kind ≡ false
error-no-credit ConnectionCredit e = cc
error-no-credit StreamCredit e = cc
error-no-credit _ e = refl

stopping-shown : (frames_shown : Bool) (x : Finding) → stops x ≡ true → is_shown frames_shown x ≡ true
stopping-shown true x e = refl
stopping-shown false x e = ap not (error-no-credit x.kind e)

-- the front of what is shown is what is shown of the front
pub upto_stop-shown : (frames_shown : Bool) (xs : List Finding) →
    upto_stop (shown frames_shown xs) ≡ shown frames_shown (upto_stop xs)
upto_stop-shown frames_shown [] = refl
upto_stop-shown frames_shown (x ∷ xs) = grind (arith, upto_stop-shown frames_shown xs, stopping-shown)
