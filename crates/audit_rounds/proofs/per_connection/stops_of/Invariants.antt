use Rattle.audit_rounds.proofs.Words.{◌≡◌, map, take}
use Rattle.audit_rounds.proofs.per_connection.stops_of.Given as goal

-- the stops of the connections so far
abbrev pub invariant-loop-one : goal.invariant-loop-one
invariant-loop-one l = l.stops.items ≡ map (λ one. one.stop) (take l.one-index l.connections)
