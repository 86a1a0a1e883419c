use Rattle.stream_credit.proofs.{ChangeLemmas.few-changes, QuietStreams.ahead-change}
use Rattle.stream_credit.proofs.Words.{arith, slice_get_within}
use Rattle.stream_credit.proofs.quiet_streams.QuietStream.meet_each.Goals as goal

pub meet_change-requires : goal.meet_change-requires
meet_change-requires c =
    let can = c.requires in
    let at = c.loop-change.invariant can.stream can.all can.rest can.starts can.ahead in
    omega (arith, at.met, few-changes c.args.changes.now at.rise)

pub loop-change-smaller : goal.loop-change-smaller
loop-change-smaller c =
    let due = c.before-in-loop-change.ensures.change _ c.in-Some.is in
    let next = c.if-not-meet_change.ensures in
    omega (arith, slice_get_within c.args.changes.now c.get.result c.in-Some.change due.at, c.get.ensures, next.met)

pub loop-change-preserved : goal.loop-change-preserved
loop-change-preserved c = λ stream all rest s h.
    let due = c.before-in-loop-change.ensures.change _ c.in-Some.is in
    let initial = rw c.get-in-Some.ensures at c.initial_at-initial.ensures in
    ahead-change (c.loop-change.invariant stream all rest s h) c.args.number s (rw c.get.ensures at due.at) due.below
    (rw initial at c.windows_after.ensures) (rw initial at c.if-not-meet_change.ensures)
