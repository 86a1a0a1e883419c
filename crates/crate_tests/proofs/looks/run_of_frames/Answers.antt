use Rattle.std.proofs.Common.{◌∙◌, length, sym, ap, subst, arith}
use Rattle.audit_terms.specs.code.runs.Orderly.{IsOrderly}
use Rattle.crate_tests.proofs.WholeStream.{whole-stream}
use Rattle.crate_tests.proofs.looks.run_of_frames.Goals as goal

pub run_of-requires-clause-own : goal.run_of-requires-clause-own
run_of-requires-clause-own c =
    whole-stream (record { stream = 1; frames = c.as_slice.result; positions = c.as_slice-2.result }) 1000 (omega arith)
    (subst IsOrderly (sym c.as_slice.ensures.value) c.in_ok-frames.ensures.orderly)
    (ap length c.as_slice.ensures.value ∙ c.in_ok-frames.ensures.count)
    (c.as_slice-2.ensures.value ∙ c.in-Ok.ensures)
