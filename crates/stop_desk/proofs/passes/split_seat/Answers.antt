use Rattle.stop_desk.proofs.{Steps.splits, Words.arith}
use Rattle.stop_desk.proofs.passes.split_seat.Goals as goal

pub split_seat-requires : goal.split_seat-requires
split_seat-requires g c = (
  rw (← c.desk.view_is) at c.requires.desk,
  c.desk.invariant.2,
  splits c.desk.inside.table.shared.key _ g.A.Amount.amount _ (omega arith) (omega arith),
)
