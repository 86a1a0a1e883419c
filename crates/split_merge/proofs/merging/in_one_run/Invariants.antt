use Rattle.split_merge.proofs.Terms.{◌≡◌, ◌++◌, flat_map}
use Rattle.split_merge.proofs.merging.in_one_run.Given as goal

-- what was joined so far, with the lists that are left, is all of them
abbrev pub invariant-loop-list : goal.invariant-loop-list
invariant-loop-list l =
    l.all.items ++ flat_map (λ list. list.items) l.list-iterator.rest.items
    ≡ flat_map (λ list. list.items) l.fn.lists.items
