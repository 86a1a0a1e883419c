use Rattle.std.proofs.Common.{List, ◌≤◌, ◌++◌, drop, length, map}
use Rattle.audit_report.specs.code.Ends.{AreEndsInTime, HasSweptTo}
use Rattle.audit_terms.specs.{Timed.timed, declared.timed_findings.TimedFinding.TimedFinding}
use Rattle.audit_report.proofs.stalls.sweep.Given as goal

abbrev pub invariant-loop-left : goal.invariant-loop-left
invariant-loop-left l = record {
  within : l.left ≤ length l.findings;
  in_time : AreEndsInTime l.ends;
  swept : (later : List TimedFinding) → HasSweptTo later l.initial.ends l.initial.stalls.items
      → HasSweptTo (map (timed l.frames) (drop l.left l.findings) ++ later) l.ends l.stalls.items;
}

abbrev pub decreases-loop-left : goal.decreases-loop-left
decreases-loop-left l = l.left
