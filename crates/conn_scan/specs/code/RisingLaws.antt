-- How the summary of identifiers goes on.
use Rattle.std.proofs.Common.{◌≡◌, ℕ, min, max, true, false, ◌&&◌, nat_lt, List, [], ◌∷◌, ◌++◌, Option, Some}
use Rattle.std.proofs.Common.{None, refl, ap, ◌∙◌, arith}
use Rattle.std.proofs.Math.Nat.{max-zero}
use Rattle.std.proofs.lemmas.Bool.Decides.{nat_tests}
use Rattle.std.proofs.lemmas.List.{append-nil}
use Rattle.conn_scan.specs.code.Rising.{least_of, greatest_of, rise, present, rising_of, rising_join, rising_met}

least-append : (x : ℕ) (a : List ℕ) (y : ℕ) (b : List ℕ) → least_of ((x ∷ a) ++ y ∷ b) ≡ min (least_of (x ∷ a))
    (least_of (y ∷ b))
least-append x [] y b = refl
least-append x (z ∷ a) y b = let e = least-append z a y b in omega arith

greatest-append : (a b : List ℕ) → greatest_of (a ++ b) ≡ max (greatest_of a) (greatest_of b)
greatest-append [] b = omega arith
greatest-append (x ∷ a) b = let e = greatest-append a b in omega arith

rise-append : (x : ℕ) (a : List ℕ) (y : ℕ) (b : List ℕ)
    → rise ((x ∷ a) ++ y ∷ b) ≡ nat_lt (greatest_of (x ∷ a)) (least_of (y ∷ b)) && (rise (x ∷ a) && rise (y ∷ b))
rise-append x [] y b = grind (arith, nat_tests)
rise-append x (z ∷ a) y b = grind (arith, nat_tests, least-append z a y b, rise-append z a y b)

pub rising_of-append : (a b : List ℕ) → rising_of (a ++ b) ≡ rising_join (rising_of a) (rising_of b)
rising_of-append [] b = refl
rising_of-append (x ∷ a) [] = ap rising_of (append-nil (x ∷ a))
rising_of-append (x ∷ a) (y ∷ b) = λ i. record {
  none = false;
  least = least-append x a y b i;
  greatest = greatest-append (x ∷ a) (y ∷ b) i;
  rises = rise-append x a y b i;
}

pub present-append : (a b : List (Option ℕ)) → present (a ++ b) ≡ present a ++ present b
present-append [] b = refl
present-append (None ∷ a) b = present-append a b
present-append (Some x ∷ a) b = ap (λ l. x ∷ l) (present-append a b)

-- the summary of one identifier more, if there is one
pub rising_of-met : (a : List (Option ℕ)) (x : Option ℕ)
    → rising_of (present (a ++ x ∷ [])) ≡ rising_met (rising_of (present a)) x
rising_of-met a None = ap rising_of (present-append a (None ∷ []) ∙ append-nil (present a))
rising_of-met a (Some x) = ap rising_of (present-append a (Some x ∷ [])) ∙ rising_of-append (present a) (x ∷ [])
    ∙ ap (λ g. rising_join (rising_of (present a)) (record { none = false; least = x; greatest = g; rises = true }))
    (max-zero x)
