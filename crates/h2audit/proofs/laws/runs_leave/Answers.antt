use Rattle.h2audit.proofs.Leaving.{runs_leave_lem}
use Rattle.h2audit.proofs.laws.runs_leave.Goals as goal

pub returns : goal.returns
returns g c = runs_leave_lem g.row.R.Denot g.row.W.Denot
