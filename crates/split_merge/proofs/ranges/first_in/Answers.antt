use Rattle.split_merge.proofs.Merged.{begins}
use Rattle.split_merge.proofs.ranges.first_in.Goals as goal

pub returns : goal.returns
returns c = λ first e.
    begins c.args.found.now c.in_ok-list.list.now c.in_ok-list.field-0-1.now c.in_ok-first.first.now first
    c.in_ok-first.field-0-1.now (rw c.deref.ensures.value at c.in_ok-list.ensures.cases.0)
    (rw c.deref-2.ensures.value at c.in_ok-first.ensures.cases.0) e
