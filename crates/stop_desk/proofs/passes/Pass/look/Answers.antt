use Rattle.stop_desk.proofs.{PassViews.looks, Steps.sees, Words.arith, Words.refl}
use Rattle.stop_desk.proofs.passes.Pass.look.Goals as goal

pub load-word-requires : goal.load-word-requires
load-word-requires c =
    let desk = rw (← c.self.view_is, ← c.desk.view_is) at c.requires.desk in
    let there = rw (← c.desk.view_is) at c.requires.connection in (
      λ i. (desk i).table,
      omega (arith, c.desk.invariant.0),
      sees c.desk.inside.table.shared.key _ _ _ _ c.self.invariant.2,
    )

pub invariant_of-self : goal.invariant_of-self
invariant_of-self c = rw (c.load-word.ensures.2 c.args.connection refl).added c.self.invariant

pub returns-clause-desk : goal.returns-clause-desk
returns-clause-desk c =
    rw (← c.self.view_is, c.load-word.ensures.0, (c.load-word.ensures.2 c.args.connection refl).added)

pub returns-clause-seen : goal.returns-clause-seen
returns-clause-seen c = rw (← c.self.view_is, c.at_word.ensures, c.load-word.ensures.0)
    (looks _ _ c.args.connection _ _ _ (c.load-word.ensures.2 c.args.connection refl))
