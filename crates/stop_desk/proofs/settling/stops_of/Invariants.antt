use Rattle.stop_desk.proofs.Words.{final_stop, map, range_with_len, ◌≡◌}
use Rattle.stop_desk.proofs.settling.stops_of.Given as goal

-- the stops of the connections so far
abbrev pub invariant-loop-connection : goal.invariant-loop-connection
invariant-loop-connection l = l.stops.items ≡ map (final_stop l.closed) (range_with_len 0 l.connection)
