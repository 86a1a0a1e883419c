use Rattle.stream_credit.proofs.Words.{List, ap, append-nil, arith, drop_all, flat_map, refl, shown, sym}
use Rattle.stream_credit.proofs.Words.{◌++◌, ◌∙◌, ◌≤◌, length}
use Rattle.quiet_pass.specs.code.ShiftSteps.{said_at}
use Rattle.quiet_pass.specs.declared.opened_rows.Row.{Row}
use Rattle.quiet_pass.proofs.shifted_rows.say_shifted.Goals as goal

pub loop-at-init : goal.loop-at-init
loop-at-init c = record { covered = λ h. h; said = λ h. refl }

pub loop-at-preserved : goal.loop-at-preserved
loop-at-preserved c =
    let was = c.loop-at.invariant in record {
      covered = λ h. c.learn_before.ensures (was.covered h);
      said = λ h.
          c.in_ok-at.ensures.said
          (c.quiet_from-quiet.ensures c.args.moving.now.frames_shown c.args.rows.now (was.covered h))
          ∙ was.said h;
    }

pub loop-at-smaller : goal.loop-at-smaller
loop-at-smaller c =
    let past = c.in_ok-at.ensures.past in omega (arith, past.0, past.1)

pub returns-clause-said : goal.returns-clause-said
returns-clause-said c = λ covered.
    let rows = c.args.rows.now in
    let done : length rows ≤ c.loop-at.at = omega (arith, c.loop-at-test.false) in
    let moving = c.args.moving.now in
    let shows = moving.frames_shown in
    sym (append-nil (shown shows c.loop-at.found.items))
    ∙ ap (λ (rest : List Row). shown shows c.loop-at.found.items ++ shown shows (flat_map (said_at moving) rest))
    (sym (drop_all c.loop-at.at rows done)) ∙ c.loop-at.invariant.said covered

pub returns-clause-covered : goal.returns-clause-covered
returns-clause-covered c = c.loop-at.invariant.covered
