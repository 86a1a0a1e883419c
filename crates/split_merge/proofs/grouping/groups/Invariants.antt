use Rattle.split_merge.{proofs.Terms.map, proofs.Terms.range_with_len, proofs.Terms.◌≡◌, specs.code.Groups.group_at}
use Rattle.split_merge.proofs.grouping.groups.Given as goal

abbrev pub invariant-loop-group : goal.invariant-loop-group
invariant-loop-group l = l.all.items ≡ map (group_at l.count l.number) (range_with_len 0 l.group)
