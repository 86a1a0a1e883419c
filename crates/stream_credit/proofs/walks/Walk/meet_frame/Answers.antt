use Rattle.stream_credit.proofs.Words.{refl, ap, ◌∙◌, arith, when_false, when_true, met_after}
use Rattle.stream_credit.proofs.ChangeLemmas.{few-changes}
use Rattle.stream_credit.proofs.WalkLemmas.{step-count, step-due, step-on, step-stops}
use Rattle.stream_credit.proofs.RunLemmas.{frame-at, frame-acknowledged, sound-next}
use Rattle.stream_credit.proofs.walks.Walk.meet_frame.Goals as goal

pub returns-then-not-branch : goal.returns-then-not-branch
returns-then-not-branch g c = λ run frames h.
    when_false _ _ c.if-not-branch.true (c.in_ok-meet_changes.ensures run _ refl h)

pub meet_changes-requires : goal.meet_changes-requires
meet_changes-requires g c =
    let (run, frames, h) = c.requires in record { run = run; rest = _; starts = refl; sound = h }

pub goes_on-requires : goal.goes_on-requires
goes_on-requires g c =
    let (run, frames, h) = c.requires in
    let (sound, from) = when_true _ _ c.if-not-branch.false (c.in_ok-meet_changes.ensures run _ refl h) in
    step-due (frame-at sound c.at-change.ensures from)

pub returns-then-not-goes_on : goal.returns-then-not-goes_on
returns-then-not-goes_on g c = λ run frames h.
    let (sound, from) = when_true _ _ c.if-not-branch.false (c.in_ok-meet_changes.ensures run _ refl h) in
    step-stops (frame-at sound c.at-change.ensures from) refl c.if-not-goes_on.ensures.kept
    c.if-not-goes_on.ensures.goes_on

pub count_frame-requires : goal.count_frame-requires
count_frame-requires g c =
    let (run, frames, h) = c.requires in
    let (sound, from) = when_true _ _ c.if-not-branch.false (c.in_ok-meet_changes.ensures run _ refl h) in
    step-count (frame-at sound c.at-change.ensures from) c.if-not-goes_on.ensures.kept
    (frame-acknowledged sound c.at-change.ensures)

pub met_after-self-requires : goal.met_after-self-requires
met_after-self-requires g c =
    let (run, frames, h) = c.requires in
    let (sound, from) = when_true _ _ c.if-not-branch.false (c.in_ok-meet_changes.ensures run _ refl h) in
    let counted = rw c.if-not-goes_on.ensures.kept at c.in_ok-count_frame.ensures in
    omega (arith, counted.met, sound.within, few-changes c.args.changes.now sound.rise)

pub returns : goal.returns
returns g c = λ run frames h.
    let (sound, from) = when_true _ _ c.if-not-branch.false (c.in_ok-meet_changes.ensures run _ refl h) in
    let counted = rw c.if-not-goes_on.ensures.kept at c.in_ok-count_frame.ensures in
    sound-next sound c.args.frame.now.number c.at-change.result c.at-change.ensures sound.acknowledged.1
    counted.initial (c.met_after-self.ensures ∙ ap (λ n. met_after n c.at-change.result) counted.met)
    (step-on (frame-at sound c.at-change.ensures from) refl c.if-not-goes_on.ensures.kept _
    c.if-not-goes_on.ensures.goes_on c.in_ok-count_frame.ensures)
