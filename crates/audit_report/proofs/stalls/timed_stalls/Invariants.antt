use Rattle.std.proofs.Common.{◌≤◌, drop, length}
use Rattle.audit_report.specs.code.Ends.{AreEndsInTime, HasSweptTo}
use Rattle.audit_report.proofs.stalls.timed_stalls.Given as goal

abbrev pub invariant-loop-left : goal.invariant-loop-left
invariant-loop-left l = record {
  within : l.left ≤ length l.findings;
  in_time : AreEndsInTime l.ends;
  swept : HasSweptTo (drop l.left l.findings) l.ends l.stalls.items;
}

abbrev pub decreases-loop-left : goal.decreases-loop-left
decreases-loop-left l = l.left
