use Rattle.audit_rounds.proofs.Words.{◌≡◌, ◌++◌, drop, map, groups, job_at}
use Rattle.audit_rounds.proofs.stream_jobs.add_groups.Given as goal

-- what is there, with the jobs of the ranges to come, is the whole
abbrev pub invariant-loop-range : goal.invariant-loop-range
invariant-loop-range l =
    l.plan.items ++ map (job_at l.connection) (drop l.range-index l.range-items)
    ≡ l.fn.plan.items ++ map (job_at l.connection) (groups l.rows l.count)
