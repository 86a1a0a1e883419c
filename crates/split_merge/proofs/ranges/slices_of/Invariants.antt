use Rattle.split_merge.specs.code.Ranges.{all_in}
use Rattle.split_merge.proofs.Terms.{drop, flat_map, ◌++◌, ◌≡◌}
use Rattle.split_merge.proofs.ranges.slices_of.Given as goal

-- the slices so far, and the lists that are left, are all
abbrev pub invariant-loop-list : goal.invariant-loop-list
invariant-loop-list l =
    all_in l.slices.items ++ flat_map (λ list. list.items) (drop l.list-index l.lists)
    ≡ flat_map (λ list. list.items) l.lists
