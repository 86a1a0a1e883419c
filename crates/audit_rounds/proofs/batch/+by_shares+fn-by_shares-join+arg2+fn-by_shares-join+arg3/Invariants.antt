use Rattle.std.proofs.Common.{◌+◌, ◌*◌}
use Rattle.audit_rounds.proofs.batch.+by_shares+fn-by_shares-join+arg2+fn-by_shares-join+arg3.Given as goal

abbrev pub decreases-join+arg2 : goal.decreases-join+arg2
decreases-join+arg2 g l = 3

abbrev pub decreases-join+arg3 : goal.decreases-join+arg3
decreases-join+arg3 g l = 2 * l.others + 1

abbrev pub decreases-by_shares : goal.decreases-by_shares
decreases-by_shares g l = 2 * l.team.now.workers
