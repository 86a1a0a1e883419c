use Rattle.stop_desk.proofs.{Steps.lowers, Words.arith, Words.refl}
use Rattle.stop_desk.proofs.passes.Pass.lower.Goals as goal

pub fetch_min-requires : goal.fetch_min-requires
fetch_min-requires c =
    let desk = rw (← c.self.view_is, ← c.desk.view_is) at c.requires.desk in
    let there = rw (← c.desk.view_is) at c.requires.connection in (
      λ i. (desk i).table,
      omega (arith, c.desk.invariant.0),
      lowers c.desk.inside.table.shared.key _ _ _ _ _ c.self.invariant.2
          (rw (← c.requires.desk, ← c.self.view_is) at c.requires.connection) (rw c.word-word.ensures c.requires.place),
    )

pub invariant_of-self : goal.invariant_of-self
invariant_of-self c = rw (c.fetch_min.ensures.2 c.args.connection refl) c.self.invariant

pub returns : goal.returns
returns c =
    rw (← c.self.view_is, ← c.word-word.ensures, c.fetch_min.ensures.0, c.fetch_min.ensures.2 c.args.connection refl)
