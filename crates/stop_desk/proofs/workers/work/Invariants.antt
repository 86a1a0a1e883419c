use Rattle.stop_desk.proofs.Words.{DrewJobs, IsWorked, ◌+◌}
use Rattle.stop_desk.proofs.workers.work.Given as goal

-- the jobs that were drawn are done, and nothing else was drawn
abbrev pub invariant-loop-job : goal.invariant-loop-job
invariant-loop-job g l =
    IsWorked (g.P.Round.makes l.shift.plan.now) (g.P.Round.jobs l.shift.plan.now) l.shift.desk.now.id l.shift.round
    (l.shift.desk.now.jobs + 1) l.parts.items l.pass × DrewJobs (g.P.Round.jobs l.shift.plan.now) l.pass

abbrev pub decreases-loop-job : goal.decreases-loop-job
decreases-loop-job g l = l.pass.allowance
