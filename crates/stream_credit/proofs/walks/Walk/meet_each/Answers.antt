use Rattle.stream_credit.proofs.{ChangeLemmas.few-changes, RunLemmas.change-at, RunLemmas.sound-next}
use Rattle.stream_credit.proofs.WalkLemmas.{live-on, step-count, step-due, step-on, step-stops}
use Rattle.stream_credit.proofs.Words.{Some, ap, arith, refl, slice_get_within, ◌+◌, ◌∙◌}
use Rattle.stream_credit.proofs.walks.Walk.meet_each.Goals as goal

pub goes_on-requires : goal.goes_on-requires
goes_on-requires g c =
    let can = c.requires.sound in
    let due = c.before-in-loop-change.ensures.change _ c.in-Some.is in
    step-due (change-at (c.loop-change.invariant.meets can.rest can.starts can.run can.sound) can.starts due)

pub returns-then-not-goes_on : goal.returns-then-not-goes_on
returns-then-not-goes_on g c = λ run rest starts h.
    let due = c.before-in-loop-change.ensures.change _ c.in-Some.is in
    step-stops (change-at (c.loop-change.invariant.meets rest starts run h) starts due) c.loop-change.invariant.live
    c.if-not-goes_on.ensures.kept c.if-not-goes_on.ensures.goes_on

pub count_change-requires : goal.count_change-requires
count_change-requires g c =
    let can = c.requires.sound in
    let due = c.before-in-loop-change.ensures.change _ c.in-Some.is in
    let sound = c.loop-change.invariant.meets can.rest can.starts can.run can.sound in
    step-count (change-at sound can.starts due) c.if-not-goes_on.ensures.kept (λ change is frame none. cc)

pub overflow_add-self : goal.overflow_add-self
overflow_add-self g c =
    let can = c.requires.sound in
    let sound = c.loop-change.invariant.meets can.rest can.starts can.run can.sound in
    let counted = rw c.if-not-goes_on.ensures.kept at c.in_ok-count_change.ensures in
    omega (arith, counted.met, sound.within, few-changes c.args.changes.now sound.rise)

pub loop-change-smaller : goal.loop-change-smaller
loop-change-smaller g c =
    let due = c.before-in-loop-change.ensures.change _ c.in-Some.is in
    let counted = rw c.if-not-goes_on.ensures.kept at c.in_ok-count_change.ensures in
    omega (arith, counted.met, slice_get_within c.args.changes.now c.loop-change.self.met c.in-Some.change due.at)

pub loop-change-preserved : goal.loop-change-preserved
loop-change-preserved g c =
    let old = c.loop-change.self in
    let change = c.in-Some.change in
    let due = c.before-in-loop-change.ensures.change _ c.in-Some.is in
    let counted = rw c.if-not-goes_on.ensures.kept at c.in_ok-count_change.ensures in
    record {
      live = rw counted.entry (live-on old.stream old.initial old.entry change ∙ c.loop-change.invariant.live);
      meets = λ rest starts run h.
          let sound = c.loop-change.invariant.meets rest starts run h in
          sound-next sound change.number (Some change) (due.at, refl) sound.acknowledged counted.initial
          (ap (λ n. n + 1) counted.met)
          (step-on (change-at sound starts due) c.loop-change.invariant.live c.if-not-goes_on.ensures.kept _
          c.if-not-goes_on.ensures.goes_on c.in_ok-count_change.ensures);
    }
