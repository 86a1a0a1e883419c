use Rattle.std.proofs.Common.{◌∷◌, ◌++◌, ◌∙◌, [], append-nil, append_assoc, arith, refl}
use Rattle.std.proofs.Common.{take}
use Rattle.std.proofs.lemmas.List.{take_all}
use Rattle.quiet_pass.proofs.FoundLemmas.{met-next, with-next}
use Rattle.quiet_pass.proofs.found_passes.FoundPass.meet_silent.Goals as goal

pub loop-frame-init : goal.loop-frame-init
loop-frame-init c = record { after = λ before h orderly. rw (append-nil before) h; same = refl }

pub meet-requires : goal.meet-requires
meet-requires c =
    let frames = c.args.frames.now in
    let i = c.loop-frame.frame-index in
    let before = c.requires.0 in (
      before ++ take i frames,
      c.loop-frame.invariant.after before c.requires.1 c.requires.2,
      met-next before frames i c.frame-item.result c.loop-frame-test.true c.frame-item.is c.requires.2,
    )

pub loop-frame-preserved : goal.loop-frame-preserved
loop-frame-preserved c =
    let frames = c.args.frames.now in
    let i = c.loop-frame.frame-index in
    let frame = c.frame-item.result in
    let next = with-next frames i frame c.loop-frame-test.true c.frame-item.is in
    record {
      after = λ before h orderly.
          rw (next, ← append_assoc before (take i frames) (frame ∷ []))
          (c.in_ok-meet.ensures.after (before ++ take i frames) (c.loop-frame.invariant.after before h orderly)
          (met-next before frames i frame c.loop-frame-test.true c.frame-item.is orderly));
      same = c.in_ok-meet.ensures.same ∙ c.loop-frame.invariant.same;
    }

pub returns-clause-after : goal.returns-clause-after
returns-clause-after c = λ before h orderly.
    let frames = c.args.frames.now in
    rw (← take_all c.loop-frame.frame-index frames (omega (arith, c.loop-frame-test.false)))
    (c.loop-frame.invariant.after before h orderly)

pub returns-clause-same : goal.returns-clause-same
returns-clause-same c = c.loop-frame.invariant.same
