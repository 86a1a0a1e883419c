use Rattle.audit_terms.specs.code.Stops.{IsFirstStop}
use Rattle.std.proofs.Common.{take}
use Rattle.audit_terms.proofs.stops.first_stop_place.Given as goal

-- the first error of the findings so far
abbrev pub invariant-loop-one : goal.invariant-loop-one
invariant-loop-one l = IsFirstStop (take l.one-index l.found) l.stop
