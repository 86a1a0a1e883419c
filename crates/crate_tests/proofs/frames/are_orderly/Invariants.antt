use Rattle.std.proofs.Common.{drop}
use Rattle.audit_terms.specs.code.runs.Orderly.{IsOrderlyFrom}
use Rattle.crate_tests.proofs.frames.are_orderly.Given as goal

abbrev pub invariant-loop-frame : goal.invariant-loop-frame
invariant-loop-frame l = IsOrderlyFrom l.low (drop l.frame-index l.frames) → IsOrderlyFrom 0 l.frames
