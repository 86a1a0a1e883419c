use Rattle.std.proofs.Common.{◌≡◌, List, ◌++◌, ◌∙◌, append_assoc}
use Rattle.fault_rules.proofs.connection_rules.say_connection.Goals as goal

-- four shares in turn and one more
four-and : {A : Type 0} (o p q a b d e w : List A) → p ≡ o ++ a ++ b ++ d ++ e → q ≡ p ++ w
    → q ≡ o ++ (a ++ b ++ d ++ e ++ w)
four-and o p q a b d e w f g = g ∙ rw f (simp append_assoc)

pub returns-clause-said : goal.returns-clause-said
returns-clause-said c =
    four-and _ _ _ _ _ _ _ _ c.in_ok-say_item.ensures c.in_ok-say_connection_windows.ensures.said
