use Rattle.stream_credit.proofs.Words.{◌≡◌, ◌++◌, drop, initial_in_force, after_each}
use Rattle.stream_credit.proofs.changes.Changes.of.Given as goal

-- what stands so far, and what comes into force with the changes that are left
abbrev pub invariant-loop-change : goal.invariant-loop-change
invariant-loop-change l =
    l.in_force.items ++ after_each l.now (drop l.change-index l.all) ≡ after_each initial_in_force.initial l.all
