use Rattle.quiet_pass.proofs.ShiftLemmas.{quiet-entry}
use Rattle.quiet_pass.proofs.shift_ranges.QuietShifts.of.Goals as goal

pub returns : goal.returns
returns c = quiet-entry c.args.frames_shown _ c.args.entry.now c.of.ensures c.of-2.ensures
