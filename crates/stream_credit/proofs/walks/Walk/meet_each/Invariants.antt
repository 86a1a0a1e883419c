use Rattle.stream_credit.proofs.Words.{◌≡◌, ◌-◌, List, length, true, Frame, StartsAt, is_live}
use Rattle.stream_credit.proofs.RunLemmas.{MeetsFrames}
use Rattle.stream_credit.proofs.walks.Walk.meet_each.Given as goal

-- the walk so far is the one at the beginning, with fewer changes to come, and its windows live on
abbrev pub invariant-loop-change : goal.invariant-loop-change
invariant-loop-change g l = record {
  live : is_live l.self.entry ≡ true;
  meets : (rest : List Frame) → StartsAt l.number rest
      → MeetsFrames g.L.Look.answers l.changes l.fn.look l.fn.self rest l.look l.self rest;
}

abbrev pub decreases-loop-change : goal.decreases-loop-change
decreases-loop-change g l = length l.changes - l.self.met
