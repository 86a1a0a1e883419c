use Rattle.audit_rounds.proofs.Words.{◌≤◌, length, take, sum_by, PerConnection, AreShort, wholes}
use Rattle.audit_rounds.specs.code.Blocks.{AreBlocksOf}
use Rattle.audit_rounds.proofs.connection_blocks.in_blocks.Given as goal

-- the connections so far are cut
abbrev pub invariant-loop-n : goal.invariant-loop-n
invariant-loop-n l = record {
  cut : AreBlocksOf (wholes (take l.n l.connections)) l.blocks.items;
  short : AreShort l.blocks.items;
  few : length l.blocks.items
      ≤ sum_by (λ (one : PerConnection). length one.prepared.frames.now) (take l.n l.connections);
}
