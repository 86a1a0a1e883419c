use Rattle.fault_rules.proofs.Terms.{◌≡◌, List, ◌++◌, ◌∙◌, append_assoc, refl}
use Rattle.fault_rules.proofs.stream_rules.say_stream.Goals as goal

-- three shares, said in turn
three : {A : Type 0} (o p q r a b d : List A) → p ≡ o ++ a → q ≡ p ++ b → r ≡ q ++ d → r ≡ o ++ (a ++ b ++ d)
three o p q r a b d h i j = j ∙ rw (i, h) (simp append_assoc)

pub returns-clause-said : goal.returns-clause-said
returns-clause-said c =
    three _ _ _ _ _ _ _ c.in_ok-say_step.ensures (rw c.opens-opening.ensures at c.in_ok-say_window-2.ensures.said)
    (rw c.opens-opening.ensures at c.in_ok-say_window-3.ensures.said)

pub returns-clause-after : goal.returns-clause-after
returns-clause-after c =
    rw (
      c.life_at-life.ensures,
      c.in_ok-say_window-2.ensures.window,
      c.in_ok-say_window-3.ensures.window,
      c.opens-opening.ensures,
    ) refl

pub returns-clause-client : goal.returns-clause-client
returns-clause-client c = c.in_ok-say_window-2.ensures.room

pub returns-clause-server : goal.returns-clause-server
returns-clause-server c = c.in_ok-say_window-3.ensures.room
