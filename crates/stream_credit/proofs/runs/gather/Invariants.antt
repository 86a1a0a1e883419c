use Rattle.stream_credit.proofs.Words.{◌≡◌, take, frames_at}
use Rattle.stream_credit.proofs.runs.gather.Given as goal

abbrev pub invariant-loop-position : goal.invariant-loop-position
invariant-loop-position l = l.near.items ≡ frames_at l.frames (take l.position-index l.positions)
