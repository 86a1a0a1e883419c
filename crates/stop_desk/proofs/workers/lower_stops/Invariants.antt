use Rattle.stop_desk.proofs.Words.{pass_of, stops_on, take, ◌++◌, ◌≡◌}
use Rattle.stop_desk.proofs.workers.lower_stops.Given as goal

-- the places of the findings so far
abbrev pub invariant-loop-found : goal.invariant-loop-found
invariant-loop-found l =
    l.pass ≡ pass_of l.fn.pass.desk l.fn.pass.allowance l.fn.pass.drawn l.fn.pass.seen
    (l.fn.pass.lowered ++ stops_on l.connection (take l.found-index l.findings))
