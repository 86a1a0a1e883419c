use Rattle.stream_credit.proofs.Words.{ℕ, ◌<◌, length, frames_at, frames_met}
use Rattle.std.specs.List.{All}
use Rattle.stream_credit.proofs.RunLemmas.{MeetsFrames}
use Rattle.stream_credit.proofs.runs.meet_all.Given as goal

-- the walk so far is the one at the beginning, with fewer frames and changes to come
abbrev pub invariant-loop-rest : goal.invariant-loop-rest
invariant-loop-rest g l = record {
  within : All (λ (position : ℕ). position < length l.own.frames.now) l.rest;
  meets : MeetsFrames g.L.Look.answers l.changes l.fn.look l.fn.walk (frames_met l.own) l.look l.walk
      (frames_at l.own.frames.now l.rest);
}

abbrev pub decreases-loop-rest : goal.decreases-loop-rest
decreases-loop-rest g l = length l.rest
