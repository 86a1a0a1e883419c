use Rattle.report_pages.proofs.Pieces.{adds-only}
use Rattle.report_pages.proofs.stretches.add_opening_from.Goals as goal

pub returns : goal.returns
returns c =
    adds-only _ c.args.from c.args.to c.args.page.now c.add_opening.new.page c.requires.within c.if-from-to.false
    (rw c.contents_in.ensures at (rw c.extents-extents.ensures at c.add_opening.ensures))
