-- On intervals: what a list of them brings to an offset, and how many offsets it covers.
use Rattle.tcp_streams.proofs.Words.{◌≡◌, ℕ, ◌<◌, ◌≤◌, List, [], ◌∷◌, Some, refl, arith, zero, suc}
use Rattle.tcp_streams.proofs.Words.{◌+◌, ◌-◌, ◌++◌, option_or, nat_tests}
use Rattle.tcp_streams.proofs.Words.{sum_by-cons}
use Rattle.tcp_streams.proofs.Words.{at, size_of, source_in, width, Interval}
use Rattle.tcp_streams.proofs.Words.{IsSome, false≢true}
use Rattle.std.{proofs.Common.min}

-- what stands where no interval does
abbrev pub no_interval : Interval
no_interval = record { from = 0; upto = 0; index = 0; rec = 0; nanos = 0 }

-- an offset is held, or it lies before, or past
pub at-in : (x : Interval) (xs : List Interval) (o : ℕ) → x.from ≤ o → o < x.upto → at (x ∷ xs) o ≡ Some (source_in x o)
at-in x xs o a b = grind (arith, nat_tests)

pub at-past : (x : Interval) (xs : List Interval) (o : ℕ) → x.upto ≤ o → at (x ∷ xs) o ≡ at xs o
at-past x xs o h = grind (arith, nat_tests)

-- what two lists bring, the first before the second
pub at-append : (xs ys : List Interval) (o : ℕ) → at (xs ++ ys) o ≡ option_or (at xs o) (at ys o)
at-append [] ys o = refl
at-append (x ∷ xs) ys o = grind (arith, at-append xs ys o)

-- how many offsets below n the intervals hold, each counted as often as it is held
abbrev below : ℕ → List Interval → ℕ
below n [] = 0
below n (x ∷ xs) = (min n x.upto - x.from) + below n xs

below-more : (n : ℕ) (xs : List Interval) → (below n xs ≤ below (suc n) xs)
    × (IsSome (at xs n) → below n xs < below (suc n) xs)
below-more n [] = (omega arith, λ some. absurd (false≢true some))
below-more n (x ∷ xs) = grind (arith, nat_tests, below-more n xs)

below-all : (n : ℕ) (xs : List Interval) → below n xs ≤ size_of xs
below-all n [] = omega arith
below-all n (x ∷ xs) = omega (arith, below-all n xs, sum_by-cons width x xs)

covered-below : (n : ℕ) (xs : List Interval) → ((o : ℕ) → o < n → IsSome (at xs o)) → n ≤ below n xs
covered-below zero xs h = omega arith
covered-below (suc n) xs h =
    omega (arith, covered-below n xs (λ o lt. h o (omega arith)), (below-more n xs).1 (h n (omega arith)))

-- so they hold as many offsets as they cover
pub covered-fit : (n : ℕ) (xs : List Interval) → ((o : ℕ) → o < n → IsSome (at xs o)) → n ≤ size_of xs
covered-fit n xs h = omega (arith, covered-below n xs h, below-all n xs)
