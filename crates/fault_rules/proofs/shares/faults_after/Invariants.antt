use Rattle.fault_rules.proofs.Terms.{◌≡◌, ◌++◌, drop, AllByRecursion, IsInRange, local_run_from}
use Rattle.fault_rules.proofs.shares.faults_after.Given as goal

-- what was found so far, and what the rest shows from the last frames there, is the whole answer
abbrev pub invariant-loop-frame : goal.invariant-loop-frame
invariant-loop-frame l = record {
  in_range : AllByRecursion IsInRange (drop l.frame-index l.frames);
  found : l.found.items ++ local_run_from l.previous (drop l.frame-index l.frames)
      ≡ local_run_from l.fn.previous l.frames;
}
