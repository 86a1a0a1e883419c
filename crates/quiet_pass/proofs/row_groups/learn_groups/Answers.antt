use Rattle.std.proofs.Common.{◌/◌}
use Rattle.stream_credit.proofs.Words.{arith, slice_get_within, ◌<◌, ◌-◌, ◌≤◌}
use Rattle.quiet_pass.proofs.GroupLemmas.{div-rises, in-group}
use Rattle.quiet_pass.proofs.row_groups.learn_groups.Goals as goal

pub returns : goal.returns
returns c frames_shown below level =
    let rows = c.args.rows.now in
    let width = c.args.level.now.width in
    let small = c.args.below.now.width in
    let some : 0 < width = omega (arith, c.if-level-eq0.false) in
    let some-below : 0 < small = omega (arith, c.if-below-eq0.false) in
    c.learn.ensures.covered frames_shown rows level (λ at row there same one other p q.
    let of = in-group at (c.args.end - 1) width some same in
    let past = c.end_of-past.ensures.each at of.1 (slice_get_within rows at row there) in
    let last : at ≤ c.end_of-past.result - 1 = omega (arith, past) in
    let above = div-rises _ at small some-below of.0 in
    let under = div-rises at (c.end_of-past.result - 1) small some-below last in
    below some-below at row there one other (c.known_of-quiet.ensures (at / small) above under one p)
    (c.known_of-quiet.ensures (at / small) above under other q))
