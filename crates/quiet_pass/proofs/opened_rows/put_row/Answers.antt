use Rattle.quiet_pass.proofs.RowLists.{missed-idle}
use Rattle.quiet_pass.proofs.opened_rows.put_row.Goals as goal

pub put_new-requires : goal.put_new-requires
put_new-requires c = λ rising.
    missed-idle c.args.rows.now.items c.args.row.stream
    (rw (c.as_slice.ensures.value, c.in-None.is) at c.row_of.ensures.missed) rising
