use Rattle.capture_parts.proofs.Terms.{ap, arith, endpoint_key, ℕ, ◌%◌, ◌*◌, ◌+◌, ◌/◌, ◌^◌, ◌≡◌}
use Rattle.capture_parts.proofs.laws.either_order.Goals as goal

pub returns : goal.returns
returns c = λ parts n m a b.
    ap (λ (sum : ℕ). sum * 11400714819323198485 % 2 ^ 64 / 2 ^ 32 % parts)
    (let e : endpoint_key a + endpoint_key b ≡ endpoint_key b + endpoint_key a = omega arith in e)
