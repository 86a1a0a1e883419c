use Rattle.std.proofs.Common.{◌≡◌, length, take}
use Rattle.std.specs.List.{flat_map}
use Rattle.h2audit.proofs.each_connection.are_few.Given as goal

-- so many are in the lists so far
abbrev pub invariant-loop-list : goal.invariant-loop-list
invariant-loop-list l = l.count ≡ length (flat_map (λ list. list.items) (take l.list-index l.lists))
