use Rattle.split_merge.proofs.Terms.{◌*◌, ◌+◌}
use Rattle.split_merge.proofs.ranges.+fn-in_ranges-join+arg3+in_ranges.Given as goal

abbrev pub decreases-join+arg3 : goal.decreases-join+arg3
decreases-join+arg3 g l = 2 * l.rest + 1

abbrev pub decreases-in_ranges : goal.decreases-in_ranges
decreases-in_ranges g l = 2 * l.workers
