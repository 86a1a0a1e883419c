use Rattle.audit_rounds.proofs.Words.{drop, ap, length, length-append, arith, plan_from}
use Rattle.audit_rounds.proofs.Batches.{jobs-few}
use Rattle.audit_rounds.proofs.stream_jobs.stream_plan.Goals as goal

pub returns-clause-numbered : goal.returns-clause-numbered
returns-clause-numbered c =
    let at = c.loop-connection in
    let all = c.args.connections.now in
    let whole = ap length at.invariant in
    let parts = length-append at.plan.items (plan_from c.args.count at.connection (drop at.connection all)) in
    let jobs = jobs-few c.args.count 0 all in
    let few = c.requires.few in omega arith
