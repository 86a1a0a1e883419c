-- The identifier out of range of a payload is one whose values have a range.
use Rattle.std.proofs.Common.{ℕ, ◌≤◌, List, [], ◌∷◌, arith}
use Rattle.h2_frames.proofs.Words.{ForSome, Setting, settings_in, first_bad, settings_of, nat_tests}

bad : (settings : List Setting) → ForSome (first_bad settings) (λ identifier. identifier ≤ 5)
bad [] = λ x is. cc
bad (s ∷ later) = λ x is. grind (arith, nat_tests, is, bad later x)

-- the first pair out of range has an identifier whose values have a range
pub settings-bad : (payload : List ℕ) → ForSome (settings_of payload).bad (λ identifier. identifier ≤ 5)
settings-bad payload = bad (settings_in payload)

pub ruleset bad_settings = (settings-bad)
