use Rattle.audit_rounds.proofs.Words.{◌<◌, length, Job, sum_job, All-map, IfOk-weaker}
use Rattle.audit_rounds.proofs.Settles.{sums-settled}
use Rattle.audit_rounds.proofs.block_rounds.sums_of.Goals as goal

pub settle-requires-clause-connections : goal.settle-requires-clause-connections
settle-requires-clause-connections g c κs inside =
    let stops = c.args.stops.now in
    All-map (λ (job : Job). job.connection < length stops) sum_job c.args.blocks.now c.requires.within

pub returns : goal.returns
returns g c =
    IfOk-weaker c.sums_in.result _ _ (λ made is.
    rw is (rw c.as_slice.ensures.value (sums-settled c.args.blocks.now c.args.stops.now c.in_ok-settled.settled
    c.in_ok-settled.ensures.settled))) c.sums_in.ensures
