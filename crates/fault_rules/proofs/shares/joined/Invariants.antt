use Rattle.fault_rules.proofs.Terms.{◌≡◌, ◌++◌, drop, flat_map}
use Rattle.fault_rules.proofs.shares.joined.Given as goal

-- what was joined so far, and the shares that are left, are all of them
abbrev pub invariant-loop-share : goal.invariant-loop-share
invariant-loop-share l =
    l.found.items ++ flat_map (λ share. share.items) (drop l.share-index l.shares)
    ≡ flat_map (λ share. share.items) l.shares
