-- What is read from the front of bytes.
use Rattle.std.proofs.Common.{◌≡◌, ℕ, ◌≤◌, List, ◌∷◌, ◌++◌, length, refl, arith}
use Rattle.std.proofs.Common.{◌%◌, ◌^◌, ap}
use Rattle.byteorder.specs.Numbers.{big_from-append}
use Rattle.h2_frames.specs.Header.{header_of, number_of_31_bits}

-- a header is read from the first nine bytes, whatever follows
pub header_of-append : (front later : List ℕ) → 9 ≤ length front → header_of (front ++ later) ≡ header_of front
header_of-append (a ∷ b ∷ c ∷ d ∷ e ∷ f ∷ g ∷ h ∷ i ∷ rest) later nine = refl
header_of-append _ later nine = absurd (omega arith)

-- and a number from the first four
pub number-append : (front later : List ℕ) → 4 ≤ length front
    → number_of_31_bits (front ++ later) ≡ number_of_31_bits front
number-append front later four = ap (λ (n : ℕ). n % 2 ^ 31) (big_from-append 4 front later four)
