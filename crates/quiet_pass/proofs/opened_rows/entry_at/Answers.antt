use Rattle.stream_credit.proofs.Words.{◌∙◌, ap, get_or_from_slice_get, sym}
use Rattle.quiet_pass.specs.code.HeldStreams.{held}
use Rattle.quiet_pass.specs.declared.opened_rows.Row.{Row}
use Rattle.quiet_pass.proofs.RowLists.{row-stands}
use Rattle.quiet_pass.proofs.opened_rows.entry_at.Goals as goal

pub returns-clause-same : goal.returns-clause-same
returns-clause-same c = λ rising.
    let of = c.requires in
    row-stands c.args.rows.now c.args.stream c.args.at of rising
    ∙ ap (λ (row : Row). held row.standings)
    (sym (get_or_from_slice_get c.args.rows.now c.args.at of.row _ of.there))
    ∙ sym c.held.ensures.same
