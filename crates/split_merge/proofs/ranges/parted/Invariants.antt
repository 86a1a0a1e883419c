use Rattle.split_merge.specs.code.Ranges.{all_in}
use Rattle.split_merge.proofs.Terms.{drop, in_order, ◌++◌, ◌≡◌}
use Rattle.split_merge.proofs.ranges.parted.Given as goal

-- fronts and backs so far, with the slices that are left, have the same findings as all
abbrev pub invariant-loop-slice : goal.invariant-loop-slice
invariant-loop-slice l =
    in_order ((all_in l.fronts.items ++ all_in l.backs.items) ++ all_in (drop l.slice-index l.slices))
    ≡ in_order (all_in l.slices)
