use Rattle.stop_desk.proofs.Words.{◌*◌, ◌+◌}
use Rattle.stop_desk.proofs.crews.+fn-fork-join+arg3+fork.Given as goal

abbrev pub decreases-join+arg3 : goal.decreases-join+arg3
decreases-join+arg3 g l = 2 * l.rest + 1

abbrev pub decreases-fork : goal.decreases-fork
decreases-fork g l = 2 * l.workers
