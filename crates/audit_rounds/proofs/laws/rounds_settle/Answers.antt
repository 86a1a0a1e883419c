use Rattle.audit_rounds.proofs.Settling.{rounds_settle_lem}
use Rattle.audit_rounds.proofs.laws.rounds_settle.Goals as goal

pub returns : goal.returns
returns c = rounds_settle_lem
