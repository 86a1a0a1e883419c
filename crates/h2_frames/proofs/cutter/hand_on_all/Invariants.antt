use Rattle.std.proofs.Common.{length}
use Rattle.h2_frames.specs.code.Cutter.{HasGoneOn}
use Rattle.h2_frames.specs.code.Handed.{HasRoomFor}
use Rattle.h2_frames.proofs.cutter.hand_on_all.Given as goal

abbrev pub invariant-loop-header : goal.invariant-loop-header
invariant-loop-header g l = record {
  room : HasRoomFor g.V.FrameVisitor.after (length l.rest) l.stage;
  on : HasGoneOn g.V.FrameVisitor.after l.source l.initial.stage l.bytes l.rest l.stage;
}

abbrev pub decreases-loop-header : goal.decreases-loop-header
decreases-loop-header g l = length l.rest
