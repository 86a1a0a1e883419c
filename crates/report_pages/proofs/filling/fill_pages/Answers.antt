use Rattle.report_pages.proofs.Filled.{page-and-others}
use Rattle.report_pages.proofs.filling.fill_pages.Goals as goal

pub returns-else-is_empty : goal.returns-else-is_empty
returns-else-is_empty g c =
    rw c.in-Some.ensures.cases.0
    (page-and-others c.args.from c.skip.result c.args.entries _ _ _ _ c.skip.ensures.entries
    c.fill_beside.ensures.page c.fill_beside.ensures.others)
