use Rattle.audit_rounds.proofs.Openings.{openings_are_told_lem}
use Rattle.audit_rounds.proofs.laws.openings_are_told.Goals as goal

pub returns : goal.returns
returns c = openings_are_told_lem
