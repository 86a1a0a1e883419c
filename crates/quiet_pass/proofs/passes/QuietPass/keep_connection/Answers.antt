use Rattle.stream_credit.proofs.Words.{refl}
use Rattle.quiet_pass.proofs.passes.QuietPass.keep_connection.Goals as goal

pub returns-clause-kept : goal.returns-clause-kept
returns-clause-kept c = record {
  kept = refl;
  client = c.keep_last.ensures.client;
  server = c.keep_last.ensures.server;
  pending = refl;
  initial = refl;
}
