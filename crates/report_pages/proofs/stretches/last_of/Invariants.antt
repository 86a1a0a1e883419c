use Rattle.std.proofs.Common.{◌≡◌, ◌-◌, length, take}
use Rattle.std.specs.{List.flat_map, Prelude.slice_get}
use Rattle.report_pages.proofs.stretches.last_of.Given as goal

-- the last of the findings so far
abbrev pub invariant-loop-list : goal.invariant-loop-list
invariant-loop-list l =
    let so_far = flat_map (λ list. list.items) (take l.list-index l.lists) in
    l.last ≡ slice_get so_far (length so_far - 1)
