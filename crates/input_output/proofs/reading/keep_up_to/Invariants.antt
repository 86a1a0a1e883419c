use Rattle.std.proofs.Common.{◌-◌, length}
use Rattle.input_output.specs.Account.{kept}
use Rattle.input_output.proofs.Kept.{IsReading, reads_left}
use Rattle.input_output.proofs.reading.keep_up_to.Given as goal

abbrev pub invariant-loop-read : goal.invariant-loop-read
invariant-loop-read g l = IsReading g.R.Read.remaining l.limit l.fn.reader l.reader l.read

abbrev pub decreases-loop-read : goal.decreases-loop-read
decreases-loop-read g l = reads_left l.reader.state (l.limit - length (kept l.reader))
