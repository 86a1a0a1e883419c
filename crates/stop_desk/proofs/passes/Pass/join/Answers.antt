use Rattle.stop_desk.proofs.{Steps.joins, Steps.learns, Words.◌∙◌}
use Rattle.stop_desk.proofs.passes.Pass.join.Goals as goal

pub join_seat-requires : goal.join_seat-requires
join_seat-requires c =
    let desk = rw (← c.self.view_is, ← c.desk.view_is) at c.requires.desk in
    let other = rw (← c.other.view_is, ← c.desk.view_is) at c.requires.other in (
      λ i. (desk i).table,
      λ i. (other i).table,
      c.other.invariant.1,
      c.desk.invariant.2,
      joins c.desk.inside.table.shared.key _ _ _ _ c.self.invariant.2,
    )

pub load-requires : goal.load-requires
load-requires c =
    let desk = rw (← c.self.view_is, ← c.desk.view_is) at c.requires.desk in (
      c.join_seat.ensures.0 ∙ (λ i. (desk i).table),
      c.desk.invariant.2,
      learns c.desk.inside.table.shared.key _ _ _,
    )
