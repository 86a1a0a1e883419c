use Rattle.std.proofs.Common.{◌≡◌, length}
use Rattle.h2_frames.proofs.Words.{arrivals_from}
use Rattle.h2_frames.proofs.side_frames.arrivals_from.Given as goal

abbrev pub invariant-loop-first : goal.invariant-loop-first
invariant-loop-first l = arrivals_from l.offset l.rest ≡ arrivals_from l.offset l.arrivals

abbrev pub decreases-loop-first : goal.decreases-loop-first
decreases-loop-first l = length l.rest
