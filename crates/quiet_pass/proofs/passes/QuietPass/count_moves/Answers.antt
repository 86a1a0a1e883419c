use Rattle.stream_credit.proofs.Words.{refl}
use Rattle.quiet_pass.proofs.passes.QuietPass.count_moves.Goals as goal

pub returns-in_default : goal.returns-in_default
returns-in_default c = record {
  streams = c.in_ok-shift_by.ensures;
  initial = refl;
  connection = refl;
  last = refl;
  pending = refl;
}
