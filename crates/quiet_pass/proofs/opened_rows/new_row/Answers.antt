use Rattle.quiet_pass.proofs.RowLists.{row-opened}
use Rattle.quiet_pass.proofs.opened_rows.new_row.Goals as goal

pub returns : goal.returns
returns c = λ row e rising.
    row-opened c.args.rows.now c.args.stream c.args.initial.now c.args.frame.now row
    (c.if-not-is_above_all.ensures rising) (c.opened.ensures row e) rising
