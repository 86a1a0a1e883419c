use Rattle.audit_rounds.proofs.Rounds.{rounds_make_pass_lem}
use Rattle.audit_rounds.proofs.laws.rounds_make_the_pass.Goals as goal

pub returns : goal.returns
returns c = rounds_make_pass_lem
