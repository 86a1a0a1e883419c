use Rattle.std.proofs.Common.{length}
use Rattle.h2_frames.proofs.Sending.{AreReadTo}
use Rattle.h2_frames.proofs.side_frames.sent_frames.Given as goal

abbrev pub invariant-loop-spelled : goal.invariant-loop-spelled
invariant-loop-spelled l =
    AreReadTo l.fn.side l.fn.arrivals l.fn.offset l.fn.bytes l.frames.items l.upto l.rest l.to_come

abbrev pub decreases-loop-spelled : goal.decreases-loop-spelled
decreases-loop-spelled l = length l.rest
