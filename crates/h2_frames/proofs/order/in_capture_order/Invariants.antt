use Rattle.std.proofs.Common.{◌+◌, length}
use Rattle.h2_frames.proofs.Merging.{AreMergedTo}
use Rattle.h2_frames.proofs.order.in_capture_order.Given as goal

abbrev pub invariant-loop-first : goal.invariant-loop-first
invariant-loop-first l = AreMergedTo l.fn.client l.fn.server l.frames.items l.sent l.answered

abbrev pub decreases-loop-first : goal.decreases-loop-first
decreases-loop-first l = length l.sent + length l.answered
