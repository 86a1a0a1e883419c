use Rattle.audit_rounds.proofs.Words.{sym, ap, ◌∙◌, append-nil, Vec, Global, items_in, ReadyBlock}
use Rattle.conn_scan.specs.code.Shown.{summary-shown}
use Rattle.conn_scan.specs.code.ConnSumLaws.{conn_shows}
use Rattle.std.proofs.lemmas.Bool.{OnFalse_at}
use Rattle.audit_rounds.proofs.Plans.{here-fits, here-sum, no-job, own-job, plan-next}
use Rattle.audit_rounds.proofs.block_plans.plan_of.Goals.{then-may_show+in_ok-push, else-may_show}
use Rattle.audit_rounds.proofs.block_plans.plan_of.Goals as goal

pub advance-now-requires : goal.advance-now-requires
advance-now-requires c =
    let at = c.loop-at in
    let one = c.index-blocks-at in
    let l = c.loop-at-test.true in
    let before = c.before_of-before in
    let sum = here-sum c.args.blocks.now at.at one.result l one.is c.args.sums.now _ c.requires.sums in
    let fits = here-fits c.args.blocks.now at.at one.result l one.is at.last at.now before.result before.ensures
    at.invariant.fits in
    let items = items_in one.result.block in
    record { fits = (items, (fits, sum.little), sum.is ∙ sym (summary-shown conn_shows items)) }

pub loop-at-preserved : goal.loop-at-preserved
loop-at-preserved c =
    let at = c.loop-at in
    let one = c.index-blocks-at in
    let shows = c.args.frames_shown in
    let blocks = c.args.blocks.now in
    let l = c.loop-at-test.true in
    let before = c.before_of-before in
    let sum = here-sum blocks at.at one.result l one.is c.args.sums.now _ c.requires.sums in
    let fits = here-fits blocks at.at one.result l one.is at.last at.now before.result before.ensures
    at.invariant.fits in
    let block = (rw (← one.is) at (c.requires.short at.at one.result l)).is_block in
    elim c.if-may_show.branch [
      | then-may_show+in_ok-push w ↦
          plan-next blocks at.at one.result l one.is at.last at.now before.result before.ensures shows _ _ _ _ _ sum
          c.advance-now.ensures (ap (λ (v : Vec ReadyBlock Global). v.items) w.plan-is ∙ w.in_ok-push.ensures.items)
          (own-job shows one.result before.result (record { is_block = block; fits = fits })) at.invariant
      | else-may_show w ↦
          plan-next blocks at.at one.result l one.is at.last at.now before.result before.ensures shows _ _ _ _ _ sum
          c.advance-now.ensures
          (ap (λ (v : Vec ReadyBlock Global). v.items) w.plan-is ∙ sym (append-nil at.plan.items)) (no-job shows
          one.result before.result (OnFalse_at w.if-may_show.false c.may_show.ensures _ sum.is)) at.invariant
    ]
