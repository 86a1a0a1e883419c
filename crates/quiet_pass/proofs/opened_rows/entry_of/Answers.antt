use Rattle.stream_credit.proofs.Words.{◌∙◌, sym}
use Rattle.quiet_pass.proofs.RowLists.{missed-idle}
use Rattle.quiet_pass.proofs.opened_rows.entry_of.Goals as goal

pub returns-in-None-clause-same : goal.returns-in-None-clause-same
returns-in-None-clause-same c = λ rising.
    missed-idle c.args.rows.now c.args.stream (rw c.in-None.is at c.row_of.ensures.missed) rising
    ∙ sym c.idle.ensures
