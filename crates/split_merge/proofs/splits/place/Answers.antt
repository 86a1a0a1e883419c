use Rattle.split_merge.proofs.Terms.{refl, ◌∙◌, sym, arith, notes_from, at_drop_all, append-nil}
use Rattle.split_merge.proofs.Positions.{came-more, notes-next}
use Rattle.split_merge.proofs.splits.place.Goals as goal

pub visit-requires : goal.visit-requires
visit-requires c =
    let (loud, room) = c.requires.room in
    let (came, all, h) = c.loop-frame.invariant.placing loud room in
    let next = notes-next c.loop-frame.frame-index c.loop-frame.position _ c.args.frames.now c.frame-item.result
    c.loop-frame-test.true c.frame-item.is c.loop-frame.invariant.position refl in
    (loud, came, _, rw next at h)

pub visit-requires-in-loop-frame : goal.visit-requires-in-loop-frame
visit-requires-in-loop-frame c =
    let (loud, room) = c.requires.room in
    let (came, all, h) = c.loop-frame.invariant.placing loud room in
    let next = notes-next c.loop-frame.frame-index c.loop-frame.position _ c.args.frames.now c.frame-item.result
    c.loop-frame-test.true c.frame-item.is c.loop-frame.invariant.position c.promised_by.ensures in
    (loud, _, _, c.visit.ensures loud came _ (rw next at h))

pub loop-frame-preserved : goal.loop-frame-preserved
loop-frame-preserved c = record {
  position = omega (arith, c.loop-frame.invariant.position);
  placing = λ loud room.
      let (came, all, h) = c.loop-frame.invariant.placing loud room in
      let next = notes-next c.loop-frame.frame-index c.loop-frame.position _ c.args.frames.now c.frame-item.result
      c.loop-frame-test.true c.frame-item.is c.loop-frame.invariant.position c.promised_by.ensures in (
        _,
        came-more came _ _ _ _ (rw next at all),
        c.visit-in-loop-frame.ensures loud _ _ (c.visit.ensures loud came _ (rw next at h)),
      );
}

pub returns : goal.returns
returns c = λ loud room.
    let (came, all, h) = c.loop-frame.invariant.placing loud room in
    let none = at_drop_all (notes_from c.loop-frame.frame-index) c.args.frames.now c.loop-frame.frame-index
    c.loop-frame-test.false in
    rw (all, sym (append-nil came) ∙ (rw none at all)) at h.filled
