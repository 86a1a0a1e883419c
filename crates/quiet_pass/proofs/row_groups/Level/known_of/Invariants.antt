use Rattle.std.proofs.Common.{◌≡◌, ◌<◌, ◌≤◌, ℕ, true}
use Rattle.audit_terms.specs.declared.sides.Sides.{Sides}
use Rattle.quiet_pass.specs.code.Shifts.{are_within, knows}
use Rattle.quiet_pass.proofs.row_groups.Level.known_of.Given as goal

abbrev pub invariant-loop-group : goal.invariant-loop-group
invariant-loop-group l =
    (k : ℕ) → l.first ≤ k → k < l.group → (shift : Sides ℕ) → are_within l.quiet shift ≡ true
    → knows l.self k shift ≡ true
