use Rattle.tcp_streams.proofs.Words.{[], arith, take, past_of}
use Rattle.tcp_streams.proofs.Numbered.{RecordsDescend-next, past_of-few, past_of-more, past_of-passed}
use Rattle.tcp_streams.proofs.membership.take_in.Goals as goal
use Rattle.tcp_streams.proofs.membership.take_in.Goals.{in-Some+in_ok-add, in_default}

pub add-requires : goal.add-requires
add-requires c =
    let packets = c.args.packets.now in
    let index = c.loop-index.index in (
      past_of (take index packets),
      c.loop-index.invariant.0,
      c.loop-index.invariant.1,
      omega (arith, past_of-few packets index, c.requires.few),
    )

pub loop-index-preserved : goal.loop-index-preserved
loop-index-preserved c =
    let packets = c.args.packets.now in
    let index = c.loop-index.index in
    elim c.match-segment_at.branch [
      | in-Some+in_ok-add w ↦ rw (w.table-is, w.opened-is, past_of-more packets index _ w.in-Some.ensures.some)
          (w.in_ok-add.ensures _ c.loop-index.invariant.0 c.loop-index.invariant.1
          (RecordsDescend-next 1 [] packets index _ c.requires.numbered tt w.in-Some.ensures.some))
      | in_default w ↦ rw (
        w.table-is,
        w.opened-is,
        past_of-passed packets index (omega arith) w.in_default.ensures.none,
      ) c.loop-index.invariant
    ]
