use Rattle.stop_desk.proofs.{PassViews.closes, Words.arith, Words.length, Words.sym, Words.◌∙◌}
use Rattle.stop_desk.proofs.desks.Desk.close.Goals as goal

-- the last pass has the whole of what the desk was opened with
pub invariant_of-result : goal.invariant_of-result
invariant_of-result c =
    let all = rw (← c.last.view_is, ← c.self.view_is) at c.requires.all in
    let desk = rw (← c.last.view_is, ← c.self.view_is) at c.requires.desk in
    let seat = c.last.inside.seat in
    let drawn = closes c.self.inside.table.shared.key _ seat.me.0 _ _
    (record { table = seat.table_id; opened = seat.me.0.opened }) c.last.invariant.2
    (omega (arith, c.last.invariant.0, c.self.invariant.3)) (λ i. (desk i).opened) c.close_with.ensures.values.2 in
    let counts = c.close_with.ensures.counts in
    let i = c.self.invariant in
    rw (c.of-known.ensures, ← c.last.view_is) (
      c.close_with.ensures.values.0,
      counts.1 ∙ i.1,
      omega (arith, counts.0, i.2),
      counts.0 ∙ i.0 ∙ sym (λ j. length (desk j).opened),
      sym drawn.0,
    )

pub returns-clause-settled : goal.returns-clause-settled
returns-clause-settled c =
    let all = rw (← c.last.view_is, ← c.self.view_is) at c.requires.all in
    let desk = rw (← c.last.view_is, ← c.self.view_is) at c.requires.desk in
    rw (c.of-known.ensures, ← c.last.view_is) (closes c.self.inside.table.shared.key _ c.last.inside.seat.me.0 _ _ _
    c.last.invariant.2 (omega (arith, c.last.invariant.0, c.self.invariant.3)) (λ i. (desk i).opened)
    c.close_with.ensures.values.2).1
