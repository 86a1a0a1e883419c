use Rattle.std.proofs.Common.{Vec, ◌≤◌, drop, length, map}
use Rattle.std.specs.Global.{Global}
use Rattle.std.specs.List.{flat_map}
use Rattle.audit_report.specs.code.Ends.{AreEndsInTime, HasSweptTo}
use Rattle.audit_terms.specs.{Timed.timed, declared.findings.Finding.Finding}
use Rattle.audit_report.proofs.stalls.stall_pairs.Given as goal

abbrev pub invariant-loop-left : goal.invariant-loop-left
invariant-loop-left l = record {
  within : l.left ≤ length l.findings;
  in_time : AreEndsInTime l.ends;
  swept : HasSweptTo
      (map (timed l.frames) (flat_map (λ (list : Vec Finding Global). list.items) (drop l.left l.findings)))
      l.ends l.stalls.items;
}

abbrev pub decreases-loop-left : goal.decreases-loop-left
decreases-loop-left l = l.left
