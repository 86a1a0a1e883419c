use Rattle.std.proofs.Common.{◌+◌, ◌*◌}
use Rattle.audit_rounds.proofs.prepared.+fn-prepare_each-join+arg2+fn-prepare_each-join+arg3+prepare_each.Given as
    goal

abbrev pub decreases-join+arg2 : goal.decreases-join+arg2
decreases-join+arg2 g l = 3

abbrev pub decreases-join+arg3 : goal.decreases-join+arg3
decreases-join+arg3 g l = 2 * l.others + 1

abbrev pub decreases-prepare_each : goal.decreases-prepare_each
decreases-prepare_each g l = 2 * l.team.now.workers
