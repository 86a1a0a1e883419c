use Rattle.tcp_streams.proofs.Words.{◌≡◌, ◌++◌, take, joined, bytes_in}
use Rattle.tcp_streams.specs.code.SideFlow.{intervals}
use Rattle.tcp_streams.proofs.assembly.push_run.Given as goal

abbrev pub invariant-loop-piece : goal.invariant-loop-piece
invariant-loop-piece l =
    joined l.pieces.items ≡ joined l.fn.pieces.items ++ bytes_in l.capture (intervals (take l.piece-index l.run))
