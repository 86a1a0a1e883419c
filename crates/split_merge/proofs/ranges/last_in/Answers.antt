use Rattle.split_merge.proofs.Merged.{ends}
use Rattle.split_merge.proofs.ranges.last_in.Goals as goal

pub returns : goal.returns
returns c = λ last e.
    ends c.args.found.now c.in_ok-list.list.now c.in_ok-list.field-0-1.now c.in_ok-last.last.now last
    c.in_ok-last.field-0-1.now (rw c.deref.ensures.value at c.in_ok-list.ensures.cases.0)
    (rw c.deref-2.ensures.value at c.in_ok-last.ensures.cases.0) e
