use Rattle.fault_rules.proofs.Terms.{◌≡◌, ◌++◌, drop, finding_at, said_by}
use Rattle.fault_rules.proofs.spots.say_each.Given as goal

-- what was said so far, and what the tests that are left say, is all
abbrev pub invariant-loop-holds : goal.invariant-loop-holds
invariant-loop-holds l =
    l.found.items
    ++ said_by (λ kind. finding_at kind l.spot.number l.spot.stream l.spot.side l.value) (drop l.holds-index l.tests)
    ≡ l.fn.found.items
    ++ said_by (λ kind. finding_at kind l.spot.number l.spot.stream l.spot.side l.value) l.tests
