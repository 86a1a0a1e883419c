use Rattle.std.proofs.Common.{◌≡◌, take}
use Rattle.h2_frames.proofs.Words.{joined}
use Rattle.h2_frames.proofs.cutting.gathered.Given as goal

abbrev pub invariant-loop-piece : goal.invariant-loop-piece
invariant-loop-piece l = l.bytes.items ≡ joined (take l.piece-index l.pieces)
