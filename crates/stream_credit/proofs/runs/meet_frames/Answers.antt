use Rattle.stream_credit.proofs.Words.{when_false, when_true, drop_all, drop_more}
use Rattle.stream_credit.proofs.runs.meet_frames.Goals as goal

pub meet_frame-requires : goal.meet_frame-requires
meet_frame-requires g c =
    let (run, rest, h) = c.requires in
    let next = drop_more c.args.frames.now c.loop-frame.frame-index c.frame-item.result c.loop-frame-test.true in
    (run, _, rw (next, ← c.frame-item.is) at (c.loop-frame.invariant rest run h))

pub returns-then-not-branch : goal.returns-then-not-branch
returns-then-not-branch g c = λ run rest h.
    let next = drop_more c.args.frames.now c.loop-frame.frame-index c.frame-item.result c.loop-frame-test.true in
    when_false _ _ c.if-not-branch.true (c.in_ok-meet_frame.ensures run _
    (rw (next, ← c.frame-item.is) at (c.loop-frame.invariant rest run h)))

pub loop-frame-preserved : goal.loop-frame-preserved
loop-frame-preserved g c = λ rest run h.
    let next = drop_more c.args.frames.now c.loop-frame.frame-index c.frame-item.result c.loop-frame-test.true in
    when_true _ _ c.if-not-branch.false (c.in_ok-meet_frame.ensures run _
    (rw (next, ← c.frame-item.is) at (c.loop-frame.invariant rest run h)))

pub returns : goal.returns
returns g c = λ run rest h.
    rw (drop_all c.loop-frame.frame-index c.args.frames.now c.loop-frame-test.false)
    at (c.loop-frame.invariant rest run h)
