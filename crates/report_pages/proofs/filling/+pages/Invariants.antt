use Rattle.std.proofs.Common.{◌+◌, ◌*◌, length}
use Rattle.report_pages.proofs.filling.+pages.Given as goal

abbrev pub decreases-fill_apart : goal.decreases-fill_apart
decreases-fill_apart g l = 4 * length l.pages.now

abbrev pub decreases-fill_beside : goal.decreases-fill_beside
decreases-fill_beside g l = 4 * length l.others.now + 3

abbrev pub decreases-fill_beside-rest : goal.decreases-fill_beside-rest
decreases-fill_beside-rest g l = 4 * length l.others.now + 1
