use Rattle.audit_rounds.proofs.Words.{◌≡◌, ◌≤◌, ◌-◌, ◌^◌, length, take, sum_by}
use Rattle.audit_rounds.proofs.Batches.{lent}
use Rattle.audit_rounds.proofs.batch.next_batch.Given as goal

-- the connections so far have few frames: those of the first one, or no more than a batch has
abbrev pub invariant-loop-count : goal.invariant-loop-count
invariant-loop-count l = record {
  some : 1 ≤ l.count;
  within : l.count ≤ length l.connections;
  is : l.total ≡ sum_by lent (take l.count l.connections);
  few : l.total ≤ 2 ^ 28;
}

abbrev pub decreases-loop-count : goal.decreases-loop-count
decreases-loop-count l = length l.connections - l.count
