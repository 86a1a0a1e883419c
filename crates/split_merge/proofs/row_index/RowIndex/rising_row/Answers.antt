use Rattle.split_merge.proofs.Rising.{none-from_front, row-from_front}
use Rattle.split_merge.proofs.Terms.{arith, length, refl, slice_get, slice_get_within, streams_in, Some, ◌≡◌, ◌≤◌}
use Rattle.split_merge.proofs.Visited.{length-streams_in}
use Rattle.split_merge.proofs.row_index.RowIndex.rising_row.Goals as goal

at_front : (c : goal.In_ok-row) → slice_get (streams_in c.args.rows.now) c.in_ok-row.row ≡ Some c.args.stream
at_front c =
    let n = length-streams_in c.args.rows.now in
    let within : c.args.self.now.rising ≤ length c.args.rows.now = omega (arith, n, c.requires.index.within) in
    row-from_front c.args.rows.now c.args.self.now.rising within c.in_ok-row.row c.args.stream
    (c.in_ok-row.ensures.found c.in_ok-row.row refl)

pub returns-in_err-row : goal.returns-in_err-row
returns-in_err-row c =
    let n = length-streams_in c.args.rows.now in
    let within : c.args.self.now.rising ≤ length c.args.rows.now = omega (arith, n, c.requires.index.within) in
    rw c.from_residual.ensures
    (none-from_front c.args.rows.now c.args.self.now.rising within c.requires.index.rises c.args.stream
    c.in_err-row.ensures.missed)

pub overflow_cast-result : goal.overflow_cast-result
overflow_cast-result c =
    let l = slice_get_within (streams_in c.args.rows.now) c.in_ok-row.row c.args.stream (at_front c) in
    omega (arith, l, length-streams_in c.args.rows.now, c.requires.room)

pub returns : goal.returns
returns c = at_front c
