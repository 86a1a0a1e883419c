use Rattle.audit_rounds.proofs.Words.{flat_map, take, IsFirstStop}
use Rattle.audit_rounds.proofs.per_connection.first_stop_in.Given as goal

-- the first stop in the lists so far
abbrev pub invariant-loop-list : goal.invariant-loop-list
invariant-loop-list l = IsFirstStop (flat_map (λ list. list.items) (take l.list-index l.found.lists.items)) l.stop
