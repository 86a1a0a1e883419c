use Rattle.audit_rounds.proofs.Words.{◌≡◌, map, take}
use Rattle.audit_rounds.proofs.block_rounds.sums_in.Given as goal

-- the summaries of the parts so far
abbrev pub invariant-loop-part : goal.invariant-loop-part
invariant-loop-part l = l.sums.items ≡ map (λ part. part.made) (take l.part-index l.parts)
