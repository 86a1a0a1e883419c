-- A bit of a number, tested by a mask.
use Rattle.std.proofs.Common.{◌≡◌, ℕ, ◌*◌, ◌<◌, not, ◌==◌, arith, ap, ◌∙◌}
use Rattle.std.proofs.lemmas.Bool.Decides.{nat_tests}
use Rattle.std.proofs.lemmas.Nat.Bits.{and_pow, bit_at-lt}
use Rattle.std.specs.Int.Bits.{bit_and}
use Rattle.std.specs.Int.{bit_at}

-- a number below 2, scaled
scaled_2 : (b : ℕ) → b < 2 → not (b * 2 == 0) ≡ (b == 1)
scaled_2 b h = grind (arith, nat_tests)

scaled_16 : (b : ℕ) → b < 2 → not (b * 16 == 0) ≡ (b == 1)
scaled_16 b h = grind (arith, nat_tests)

pub bit_1_by_mask : (n : ℕ) → not (bit_and n 2 == 0) ≡ (bit_at n 1 == 1)
bit_1_by_mask n = ap (λ m. not (m == 0)) (and_pow n 1) ∙ scaled_2 (bit_at n 1) (bit_at-lt n 1)

pub bit_4_by_mask : (n : ℕ) → not (bit_and n 16 == 0) ≡ (bit_at n 4 == 1)
bit_4_by_mask n = ap (λ m. not (m == 0)) (and_pow n 4) ∙ scaled_16 (bit_at n 4) (bit_at-lt n 4)
