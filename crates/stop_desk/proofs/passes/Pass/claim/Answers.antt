use Rattle.stop_desk.proofs.{Steps.draws, Words.arith}
use Rattle.stop_desk.proofs.passes.Pass.claim.Goals as goal

pub fetch_add-number-requires : goal.fetch_add-number-requires
fetch_add-number-requires c =
    let desk = rw (← c.self.view_is, ← c.desk.view_is) at c.requires in
    let left = draws c.desk.inside.table.shared.key _ _ _ (omega (arith, c.self.invariant.0)) in
    (λ i. (desk i).table, c.desk.invariant.2, left)
