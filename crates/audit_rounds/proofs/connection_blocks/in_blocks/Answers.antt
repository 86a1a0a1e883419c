use Rattle.audit_rounds.proofs.Words.{length, not, ap, arith, sum_by_more, Frame, PerConnection, is_past}
use Rattle.audit_rounds.proofs.Batches.{filter-shorter}
use Rattle.audit_rounds.proofs.Plans.{cut-next}
use Rattle.audit_rounds.proofs.Settling.{rest-block}
use Rattle.audit_rounds.proofs.connection_blocks.in_blocks.Goals as goal

pub add_blocks-requires-clause-whole : goal.add_blocks-requires-clause-whole
add_blocks-requires-clause-whole c =
    let here = c.index-connections-n in
    let rest = c.rest-whole.ensures in
    (rest-block c.args.division.now.frames_shown here.result
    (rw (← here.is) at (c.requires.through c.loop-n.n here.result c.loop-n-test.true)) c.rest-whole.result rest.frames
    rest.opened rest.changes).0

pub loop-n-preserved : goal.loop-n-preserved
loop-n-preserved c =
    let i = c.loop-n.invariant in
    let at = c.loop-n.n in
    let connections = c.args.connections.now in
    let here = c.index-connections-n in
    let one = here.result in
    let rest = c.rest-whole.ensures in
    let adds = c.in_ok-add_blocks.ensures in
    let through = rw (← here.is) at (c.requires.through at one c.loop-n-test.true) in
    let block = rest-block c.args.division.now.frames_shown one through c.rest-whole.result rest.frames rest.opened
    rest.changes in
    record {
      cut = cut-next connections at one c.rest-whole.result _ _ c.loop-n-test.true here.is block.1 i.cut adds;
      short = adds.short i.short;
      few =
          let is = ap (λ (one : PerConnection). length one.prepared.frames.now) here.is in
          let more = sum_by_more (λ (one : PerConnection). length one.prepared.frames.now) connections at one
          c.loop-n-test.true in
          let kept = ap length rest.frames in
          let fewer = filter-shorter (λ (frame : Frame). not (is_past one.stop frame.number)) one.prepared.frames.now in
          omega (arith, i.few, adds.few, is, more, kept, fewer);
    }
