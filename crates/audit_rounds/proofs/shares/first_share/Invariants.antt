use Rattle.std.proofs.Common.{◌≤◌, ◌<◌, ◌-◌, length}
use Rattle.audit_rounds.proofs.shares.first_share.Given as goal

-- some are before, and not all
abbrev pub invariant-loop-count : goal.invariant-loop-count
invariant-loop-count l = record { some : 1 ≤ l.count; fewer : l.count < length l.connections }

abbrev pub decreases-loop-count : goal.decreases-loop-count
decreases-loop-count l = length l.connections - l.count
