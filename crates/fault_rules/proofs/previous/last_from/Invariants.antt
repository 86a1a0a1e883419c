use Rattle.fault_rules.proofs.Terms.{◌≡◌, ◌-◌, length, take, last_from}
use Rattle.fault_rules.proofs.previous.last_from.Given as goal

-- what was looked at holds no frame of the side
abbrev pub invariant-loop-back : goal.invariant-loop-back
invariant-loop-back l =
    last_from l.side l.before l.frames ≡ last_from l.side l.before (take (length l.frames - l.back) l.frames)
