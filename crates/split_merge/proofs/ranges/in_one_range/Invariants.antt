use Rattle.split_merge.specs.code.Ranges.{all_in}
use Rattle.split_merge.proofs.Terms.{drop, ◌++◌, ◌≡◌}
use Rattle.split_merge.proofs.ranges.in_one_range.Given as goal

-- the findings so far, and those of the slices that are left, are all
abbrev pub invariant-loop-slice : goal.invariant-loop-slice
invariant-loop-slice l = l.all.items ++ all_in (drop l.slice-index l.slices) ≡ all_in l.slices
