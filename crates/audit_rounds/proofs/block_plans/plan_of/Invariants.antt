use Rattle.audit_rounds.proofs.Words.{drop}
use Rattle.audit_rounds.proofs.Plans.{ArePlanned}
use Rattle.audit_rounds.proofs.block_plans.plan_of.Given as goal

-- the blocks so far are planned
abbrev pub invariant-loop-at : goal.invariant-loop-at
invariant-loop-at l = ArePlanned l.frames_shown l.blocks (drop l.at l.blocks) l.last l.now l.plan.items
