use Rattle.stream_credit.proofs.Words.{same_Some}
use Rattle.quiet_pass.proofs.ShiftLemmas.{beq-same}
use Rattle.quiet_pass.proofs.kept_streams.Streams.shift_for.Goals as goal

pub returns-in-Some : goal.returns-in-Some
returns-in-Some c = λ shift e. record {
  shifted = c.in-Some.shifted;
  is = c.in-Some.is;
  by = same_Some _ _ e;
  known = beq-same _ _ c.if-shifted-frames_shown.true;
}
