use Rattle.audit_rounds.proofs.Words.{◌≡◌, ◌++◌, map, findings_in, PerConnection}
use Rattle.audit_rounds.proofs.Settles.{merged}
use Rattle.audit_rounds.proofs.gathering.merged_each.Given as goal

-- what was merged so far, and what comes of those that are left, is all
abbrev pub invariant-loop-one : goal.invariant-loop-one
invariant-loop-one g l =
    map findings_in l.all.items ++ map (λ (one : PerConnection). merged one.found) l.one-iterator.rest.items
    ≡ map (λ (one : PerConnection). merged one.found) l.fn.connections.items
