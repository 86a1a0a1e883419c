use Rattle.std.proofs.Common.{take}
use Rattle.audit_rounds.proofs.Words.{AreReady}
use Rattle.audit_rounds.proofs.prepared.prepare_one_by_one.Given as goal

-- the connections so far are ready
abbrev pub invariant-loop-frames : goal.invariant-loop-frames
invariant-loop-frames g l =
    AreReady l.division.frames_shown (take l.frames-index l.connections) l.made.items
