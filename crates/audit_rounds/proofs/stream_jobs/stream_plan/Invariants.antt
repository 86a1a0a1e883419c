use Rattle.audit_rounds.proofs.Words.{◌≡◌, ◌++◌, drop, plan_from}
use Rattle.audit_rounds.proofs.stream_jobs.stream_plan.Given as goal

-- what is there, with the jobs of the connections to come, is the whole
abbrev pub invariant-loop-connection : goal.invariant-loop-connection
invariant-loop-connection l =
    l.plan.items ++ plan_from l.count l.connection (drop l.connection l.connections)
    ≡ plan_from l.count 0 l.connections
