use Rattle.fault_rules.proofs.Terms.{append-nil, append_assoc, drop_all, drop_more, sym, ◌∙◌}
use Rattle.fault_rules.proofs.shares.joined.Goals as goal

pub loop-share-preserved : goal.loop-share-preserved
loop-share-preserved c =
    let left = drop_more c.args.shares.now c.loop-share.share-index c.share-item.result c.loop-share-test.true in
    rw (c.in_ok-extend_from_slice.ensures.items, c.as_slice.ensures.value, append_assoc)
    (rw (left, ← c.share-item.is) at c.loop-share.invariant)

pub returns : goal.returns
returns c =
    sym (append-nil c.loop-share.found.items)
    ∙ rw (drop_all c.loop-share.share-index c.args.shares.now c.loop-share-test.false) at c.loop-share.invariant
