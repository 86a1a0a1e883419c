use Rattle.audit_rounds.proofs.Words.{length, length-map, refl, sym, ap, ◌∙◌, IfOk-weaker}
use Rattle.audit_rounds.proofs.Lists.{stop_in}
use Rattle.audit_rounds.proofs.Plans.{cut-within, plan-as}
use Rattle.audit_rounds.proofs.Settles.{blocks-walk, each-place}
use Rattle.audit_rounds.proofs.block_rounds.planned.Goals as goal

pub sums_of-requires-clause-places : goal.sums_of-requires-clause-places
sums_of-requires-clause-places g c κs inside =
    rw c.requires.stops (each-place c.args.division.now.frames_shown c.args.connections.now c.requires.through)

pub sums_of-requires-clause-within : goal.sums_of-requires-clause-within
sums_of-requires-clause-within g c κs inside =
    rw c.as_slice-blocks.ensures.value (cut-within c.args.connections.now c.in_ok-blocks.blocks.items _
    (sym (ap length c.requires.stops ∙ length-map c.args.connections.now stop_in)) c.in_ok-blocks.ensures.of)

pub plan_of-requires-clause-fits : goal.plan_of-requires-clause-fits
plan_of-requires-clause-fits g c =
    let same = c.as_slice-blocks.ensures.value in
    rw same (blocks-walk c.args.division.now.frames_shown c.args.connections.now c.requires.through
    c.in_ok-blocks.blocks.items c.in_ok-sums.sums.items c.in_ok-blocks.ensures.of
    (rw same at c.in_ok-sums.ensures)).fits

pub returns-clause-plan : goal.returns-clause-plan
returns-clause-plan g c =
    let same = c.as_slice-blocks.ensures.value in
    let shows = c.args.division.now.frames_shown in
    let connections = c.args.connections.now in
    let blocks = c.in_ok-blocks.blocks.items in
    let of = c.in_ok-blocks.ensures.of in
    let walk = blocks-walk shows connections c.requires.through blocks c.in_ok-sums.sums.items of
    (rw same at c.in_ok-sums.ensures) in
    let within = cut-within connections blocks (length connections) refl of in
    IfOk-weaker c.plan_of.result _ _ (λ plan is.
    plan-as shows (length connections) _ _ plan.items (rw same at (is (length connections) (rw same within)))
    walk.shown) c.plan_of.ensures.plan
