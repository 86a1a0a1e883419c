use Rattle.stream_credit.proofs.Words.{◌∙◌, get_or_from_slice_get}
use Rattle.quiet_pass.proofs.RowLists.{row-met}
use Rattle.quiet_pass.proofs.opened_rows.meet.Goals as goal

pub returns-clause-quiet : goal.returns-clause-quiet
returns-clause-quiet c =
    let of = c.requires in
    let rows = c.args.rows.now.items in
    let read = c.index.ensures ∙ get_or_from_slice_get rows c.args.at of.row c.index.result.now of.there in
    row-met rows c.args.at c.args.frame.now c.in-Some.next of
    (rw read at (c.after.ensures c.in-Some.next c.in-Some.is))
