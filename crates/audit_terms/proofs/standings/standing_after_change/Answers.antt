use Rattle.std.proofs.{Common.arith, lemmas.Grind.common_steps}
use Rattle.audit_terms.proofs.standings.standing_after_change.Goals as goal

pub returns : goal.returns
returns c = grind (arith, common_steps)
