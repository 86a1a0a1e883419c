use Rattle.audit_rounds.proofs.Words.{arith, take_all}
use Rattle.audit_rounds.proofs.Stopping.{first-both, one-more}
use Rattle.audit_rounds.proofs.per_connection.first_stop_in.Goals as goal

pub loop-list-preserved : goal.loop-list-preserved
loop-list-preserved c =
    let at = c.loop-list in
    let lists = c.deref-list-items.ensures.value in
    rw (
      c.lesser_place-stop.ensures,
      one-more c.args.found.now.lists.items at.list-index c.list-item.result (rw lists at c.loop-list-test.true)
          (rw lists at c.list-item.is),
    ) (first-both _ c.list-item.result.items at.stop c.first_stop_place.result at.invariant
    (rw c.as_slice.ensures.value at c.first_stop_place.ensures))

pub returns : goal.returns
returns c =
    let ends = rw c.deref-list-items.ensures.value at c.loop-list-test.false in
    rw (take_all c.loop-list.list-index c.args.found.now.lists.items (omega (arith, ends))) at c.loop-list.invariant
