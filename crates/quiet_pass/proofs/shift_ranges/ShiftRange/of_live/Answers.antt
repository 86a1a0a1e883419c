use Rattle.stream_credit.proofs.Words.{Some}
use Rattle.quiet_pass.proofs.shift_ranges.ShiftRange.of_live.Goals as goal

pub returns-then-frames_shown : goal.returns-then-frames_shown
returns-then-frames_shown c = c.alone.ensures c.args.frames_shown (Some c.args.credit)
