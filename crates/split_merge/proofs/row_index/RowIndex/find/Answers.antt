use Rattle.split_merge.proofs.Rising.{absent-from_both, row-from_table}
use Rattle.split_merge.proofs.{Terms.streams_in, Terms.sym, Visited.none-from_test}
use Rattle.split_merge.proofs.row_index.RowIndex.find.Goals as goal

pub returns-in_err-place : goal.returns-in_err-place
returns-in_err-place c =
    rw c.from_residual.ensures
    (absent-from_both (streams_in c.args.rows.now) c.args.self.now c.requires.index c.args.stream c.in_default.ensures
    (none-from_test c.args.stream c.args.self.now.others.keys (sym c.in_err-place.ensures.found)))

pub returns : goal.returns
returns c =
    row-from_table (streams_in c.args.rows.now) c.args.self.now c.requires.index c.args.stream c.in_ok-place.place
    c.in_ok-place.field-0-1.now c.in_ok-place.ensures.key c.in_ok-place.ensures.stored
