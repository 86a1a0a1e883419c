use Rattle.stream_credit.proofs.Words.{length, ap, ◌∙◌, arith, initial_in_force}
use Rattle.stream_credit.proofs.ChangeLemmas.{length-each, initial-is}
use Rattle.stream_credit.proofs.changes.Changes.initial_at.Goals as goal

pub index-requires : goal.index-requires
index-requires c =
    let same = ap length c.self.invariant ∙ length-each initial_in_force.initial c.self.inside.all.now
    ∙ ap length c.self.view_is in
    omega (arith, c.if-met-eq0.false, c.requires, same, c.self.inside.in_force.ok.0)

pub returns : goal.returns
returns c =
    initial-is c.args.met c.args.self.now c.self.inside.in_force.items c.index.result.now _ c.if-met-eq0.false
    c.requires (rw c.self.view_is at c.self.invariant) c.index.ensures
