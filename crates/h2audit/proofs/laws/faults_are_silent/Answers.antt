use Rattle.h2audit.proofs.Leaving.{faults_are_silent_lem}
use Rattle.h2audit.proofs.laws.faults_are_silent.Goals as goal

pub returns : goal.returns
returns g c = faults_are_silent_lem g.row.R.Denot g.row.W.Denot
