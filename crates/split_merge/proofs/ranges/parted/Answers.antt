use Rattle.split_merge.proofs.Merged.{parted-next}
use Rattle.split_merge.proofs.ranges.parted.Goals as goal

pub loop-slice-preserved : goal.loop-slice-preserved
loop-slice-preserved c =
    parted-next c.args.slices.now c.loop-slice.fronts.items c.loop-slice.backs.items _ _
    c.loop-slice.slice-index c.count_up_to.result c.slice-item.result c.split_at.result.0 c.split_at.result.1
    c.loop-slice-test.true c.slice-item.is c.in_ok-extend_from_slice.ensures.items
    c.in_ok-extend_from_slice-2.ensures.items c.split_at.ensures.front c.split_at.ensures.back c.loop-slice.invariant
