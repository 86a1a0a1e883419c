use Rattle.std.proofs.Common.{ap, arith, length}
use Rattle.std.proofs.lemmas.List.Elements.{All-head, All-tail}
use Rattle.report_pages.specs.code.Pages.{HoldsEntries}
use Rattle.report_pages.proofs.Filled.{page-and-others}
use Rattle.report_pages.proofs.filling.+pages.Goals as goal

pub fill_apart-fill_beside-requires : goal.fill_apart-fill_beside-requires
fill_apart-fill_beside-requires g t c κs within =
    let room = rw c.in-Some.ensures.cases.0 at c.requires.room in
    let holds = HoldsEntries c.args.entries in (
      omega (arith, ap length c.in-Some.ensures.cases.0),
      (within, (c.requires.cursor, (All-head holds _ _ room, (c.skip.ensures.cursor, All-tail holds _ _ room)))),
    )

pub fill_apart-returns : goal.fill_apart-returns
fill_apart-returns g t c =
    rw c.in-Some.ensures.cases.0
    (page-and-others c.args.from c.skip.result c.args.entries _ _ _ _ c.skip.ensures.entries
    c.fill_beside.ensures.page c.fill_beside.ensures.others)
