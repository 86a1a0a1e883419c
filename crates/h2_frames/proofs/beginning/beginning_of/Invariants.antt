use Rattle.std.proofs.Common.{◌≡◌, ◌<◌, take}
use Rattle.h2_frames.proofs.Words.{joined, preface}
use Rattle.h2_frames.proofs.beginning.beginning_of.Given as goal

abbrev pub invariant-loop-piece : goal.invariant-loop-piece
invariant-loop-piece l = record {
  within : l.count < 24;
  bytes : joined (take l.piece-index l.pieces) ≡ take l.count preface;
}
