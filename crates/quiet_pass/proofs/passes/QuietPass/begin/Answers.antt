use Rattle.stream_credit.proofs.Words.{arith}
use Rattle.quiet_pass.proofs.passes.QuietPass.begin.Goals as goal

pub returns : goal.returns
returns c = record {
  client = grind arith;
  server = grind arith;
  pending = c.new.ensures;
  initial = grind arith;
  connection = c.start.ensures;
  streams = c.new-2.ensures;
}
