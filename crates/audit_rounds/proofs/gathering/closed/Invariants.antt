use Rattle.audit_rounds.proofs.Words.{take, AreEach}
use Rattle.audit_rounds.proofs.Gathers.{HasHeard, IsHalf}
use Rattle.audit_rounds.proofs.gathering.closed.Given as goal

-- the connections have heard the parts so far
abbrev pub invariant-loop-part : goal.invariant-loop-part
invariant-loop-part l = AreEach (HasHeard (take l.part-index l.parts)) l.fn.connections.items l.all.items

-- the connections so far are closed, and the others have heard all parts
abbrev pub invariant-loop-n : goal.invariant-loop-n
invariant-loop-n l = AreEach (IsHalf l.parts l.stops l.n) l.fn.connections.items l.all.items
