use Rattle.split_merge.proofs.{GroupRanges.groups-consecutive, Terms.arith, Terms.sym, Terms.◌≡◌}
use Rattle.split_merge.specs.code.Groups.{group_at}
use Rattle.std.proofs.lemmas.List.FromFn.{map-range_with_len_more}
use Rattle.split_merge.proofs.grouping.groups.Goals as goal

pub loop-group-preserved : goal.loop-group-preserved
loop-group-preserved c =
    let group = c.loop-group.group in
    rw (c.in_ok-push.ensures.items, c.group_at.ensures, c.loop-group.invariant)
    (sym (map-range_with_len_more (group_at c.args.count c.min-number.result) 0 group group (omega arith)))

pub returns-in_err-all-clause-consecutive : goal.returns-in_err-all-clause-consecutive
returns-in_err-all-clause-consecutive c = groups-consecutive c.args.count c.args.n c.requires.some

pub returns-in_err-push-clause-consecutive : goal.returns-in_err-push-clause-consecutive
returns-in_err-push-clause-consecutive c = groups-consecutive c.args.count c.args.n c.requires.some

pub returns-clause-consecutive : goal.returns-clause-consecutive
returns-clause-consecutive c = groups-consecutive c.args.count c.args.n c.requires.some

pub returns-clause-value : goal.returns-clause-value
returns-clause-value c =
    let all : c.loop-group.group ≡ c.min-number.result = omega arith in
    rw (all, c.min-number.ensures) at c.loop-group.invariant
