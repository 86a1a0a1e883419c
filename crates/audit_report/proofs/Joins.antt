-- What is pushed onto a text piece by piece is the pieces joined.
use Rattle.std.proofs.Common.{◌≡◌, ℕ, List, ◌++◌, ◌∙◌, ap, append_assoc, Result, Ok, Err, OnOk}

-- two pieces in turn
pub two : (o p q a b : List ℕ) → p ≡ o ++ a → q ≡ p ++ b → q ≡ o ++ (a ++ b)
two o p q a b e f = f ∙ ap (λ l. l ++ b) e ∙ append_assoc o a b

pub ruleset joins = (two, append_assoc)

-- three pieces in turn, the last by a call that may fail
pub three : {T E : Type 0} (r : Result T E) (o p q s a b c : List ℕ) → p ≡ o ++ a → q ≡ p ++ b → OnOk r (s ≡ q ++ c)
    → OnOk r (s ≡ o ++ (a ++ b ++ c))
three (Ok _) o p q s a b c e f g = two o q s (a ++ b) c (two o p q a b e f) g
three (Err _) o p q s a b c e f g = g
