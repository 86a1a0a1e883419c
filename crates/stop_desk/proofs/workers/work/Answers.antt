use Rattle.stop_desk.proofs.{Words.subst, Words.◌<◌, Working.worked-ends, Working.worked-job, Working.worked-none}
use Rattle.stop_desk.proofs.workers.work.Goals as goal

pub loop-job-init : goal.loop-job-init
loop-job-init g c =
    let shift = c.args.shift.now in
    rw (c.requires, c.in_ok-parts.ensures.items)
    (worked-none (g.P.Round.makes shift.plan.now) (g.P.Round.jobs shift.plan.now) shift.round shift.desk.now.id _)

pub loop-job-preserved : goal.loop-job-preserved
loop-job-preserved g c =
    let shift = c.args.shift.now in
    let claim = c.in-Job.ensures.drawn in
    rw c.in_ok-push.ensures.items
    (worked-job (g.P.Round.makes shift.plan.now) (g.P.Round.jobs shift.plan.now) shift.round shift.desk.now.id _
    c.loop-job.parts.items c.loop-job.pass c.claim.new.self c.in-Job.job c.loop-job.invariant.0 claim.1
    c.in_ok-part.part c.in_ok-part.rest (subst (λ count. c.in-Job.job < count) shift.counted claim.0)
    c.in_ok-part.ensures c.loop-job.invariant.1)

pub returns : goal.returns
returns g c =
    let shift = c.args.shift.now in
    worked-ends (g.P.Round.makes shift.plan.now) (g.P.Round.jobs shift.plan.now) shift.round shift.desk.now.id
    shift.desk.now.jobs c.loop-job.parts.items c.loop-job.pass c.claim.new.self c.claim.result shift.counted
    c.loop-job.invariant.0 c.loop-job.invariant.1 c.claim.ensures.drawn c.in_default.not-Job
