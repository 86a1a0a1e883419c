use Rattle.std.proofs.Common.{arith}
use Rattle.audit_terms.specs.{Place.place_number, Timed.timed}
use Rattle.audit_report.proofs.{FrameNumbers.nanos_timely, Sweep.still_in_time, Sweep.swept_down}
use Rattle.audit_report.proofs.stalls.sweep.Goals as goal

pub loop-left-preserved : goal.loop-left-preserved
loop-left-preserved c =
    let frames = c.args.frames.now in
    let here = c.index-findings-left.result in
    let ended = c.in_ok-look_at.ensures.ended in
    record {
      within = omega arith;
      in_time = still_in_time (timed frames here) c.loop-left.ends c.look_at.new.ends
          (nanos_timely 0 frames (place_number here.place) c.requires.frames) c.loop-left.invariant.in_time ended;
      swept = λ later h. swept_down (timed frames) c.args.findings.now later c.loop-left.left here c.loop-left.ends
          c.look_at.new.ends c.loop-left.stalls.items c.look_at.new.stalls.items (omega arith)
          c.loop-left.invariant.within c.index-findings-left.is (c.loop-left.invariant.swept later h) ended
          c.in_ok-look_at.ensures.begun;
    }
