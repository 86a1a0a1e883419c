use Rattle.std.proofs.Common.{Ok, ◌-◌, ◌≤◌, length, take}
use Rattle.input_output.specs.declared.report_writer.WriteFault.{WriteFault}
use Rattle.report_pages.specs.code.Written.{HasWritten}
use Rattle.report_pages.proofs.writing.write_bytes.Given as goal

-- a front of the bytes is written
abbrev pub invariant-loop-at : goal.invariant-loop-at
invariant-loop-at g l = record {
  within : l.at ≤ length l.bytes;
  written : HasWritten {E = WriteFault} g.W.Write.contents l.initial.writer l.writer (take l.at l.bytes) (Ok tt);
}

abbrev pub decreases-loop-at : goal.decreases-loop-at
decreases-loop-at g l = length l.bytes - l.at
