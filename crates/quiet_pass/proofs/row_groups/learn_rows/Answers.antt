use Rattle.stream_credit.proofs.Words.{arith, slice_get_within, ◌<◌, ◌-◌}
use Rattle.quiet_pass.proofs.GroupLemmas.{in-group}
use Rattle.quiet_pass.proofs.row_groups.learn_rows.Goals as goal

pub returns : goal.returns
returns c covered =
    let rows = c.args.rows.now in
    let width = c.args.small.now.width in
    let some : 0 < width = omega (arith, c.if-small-eq0.false) in
    c.learn.ensures.covered c.args.frames_shown rows covered (λ at row there same.
    let of = in-group at (c.args.end - 1) width some same in
    c.quiet_of-quiet.ensures at row of.0 (c.end_of-past.ensures.each at of.1
    (slice_get_within rows at row there)) there)
