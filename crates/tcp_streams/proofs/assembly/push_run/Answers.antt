use Rattle.tcp_streams.proofs.{Words.append_assoc, Words.take, Words.take_all}
use Rattle.tcp_streams.{proofs.RunLemmas.bytes_in-push, specs.code.Interval.IsInside}
use Rattle.tcp_streams.proofs.{IntervalLemmas.no_interval}
use Rattle.tcp_streams.proofs.SideFlowSteps.{inside-at, intervals-more}
use Rattle.tcp_streams.specs.code.SideFlow.{intervals}
use Rattle.tcp_streams.proofs.assembly.push_run.Goals as goal

pub push_bytes-requires : goal.push_bytes-requires
push_bytes-requires c =
    inside-at c.args.run.now c.loop-piece.piece-index _ c.loop-piece-test.true (IsInside _) c.requires

pub loop-piece-preserved : goal.loop-piece-preserved
loop-piece-preserved c =
    let so_far = intervals (take c.loop-piece.piece-index c.args.run.now) in
    let next = intervals-more c.args.run.now c.loop-piece.piece-index
    (record { interval = no_interval; content = tt }) c.loop-piece-test.true in
    rw (c.in_ok-push_bytes.ensures, c.loop-piece.invariant, next, bytes_in-push c.args.capture.now so_far _)
    (simp append_assoc)

pub returns : goal.returns
returns c = rw (take_all c.loop-piece.piece-index c.args.run.now c.loop-piece-test.false) at c.loop-piece.invariant
