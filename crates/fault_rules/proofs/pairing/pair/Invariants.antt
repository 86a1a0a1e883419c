use Rattle.fault_rules.proofs.Terms.{◌≡◌, ◌++◌, ℕ, drop, changes_from, changes_of, settings_run, settings_run_from}
use Rattle.fault_rules.proofs.Terms.{InForce, IsOrderlyFrom, IsPending}
use Rattle.fault_rules.proofs.pairing.pair.Given as goal

-- what was found so far, and what the rest shows from the settings in force there, is the whole answer
abbrev pub invariant-loop-frame : goal.invariant-loop-frame
invariant-loop-frame l = record {
  now : InForce;
  low : ℕ;
  pending : IsPending now l.pending;
  orderly : IsOrderlyFrom low (drop l.frame-index l.frames);
  changes : l.pairs.changes.items ++ changes_from now (drop l.frame-index l.frames) ≡ changes_of l.frames;
  findings : l.pairs.findings.items ++ settings_run_from now (drop l.frame-index l.frames) ≡ settings_run l.frames;
}
