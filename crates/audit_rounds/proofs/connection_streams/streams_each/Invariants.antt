use Rattle.audit_rounds.proofs.Words.{take, AreStreamsOf}
use Rattle.audit_rounds.proofs.connection_streams.streams_each.Given as goal

-- the streams of the connections so far
abbrev pub invariant-loop-one : goal.invariant-loop-one
invariant-loop-one l = AreStreamsOf (take l.one-index l.connections) l.all.items
