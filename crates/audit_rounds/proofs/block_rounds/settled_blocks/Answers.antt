use Rattle.audit_rounds.proofs.Words.{◌≡◌, map, length, length-map, refl, sym, ap, ◌∙◌, IfOk-weaker}
use Rattle.audit_rounds.proofs.Lists.{stop_in}
use Rattle.audit_rounds.proofs.Settles.{each-place, jobs-inside, parts-within}
use Rattle.audit_rounds.proofs.block_rounds.settled_blocks.Goals as goal

pub settle-requires-clause-places : goal.settle-requires-clause-places
settle-requires-clause-places g c κs inside = rw (c.as_slice-stops.ensures.value, c.in_ok-stops.ensures)
    (each-place c.args.division.now.frames_shown c.args.connections.now c.requires.through)

pub settle-requires-clause-connections : goal.settle-requires-clause-connections
settle-requires-clause-connections g c κs inside =
    rw c.as_slice.ensures.value (jobs-inside c.args.division.now.frames_shown _ _ _ _
    (sym (ap length (c.as_slice-stops.ensures.value ∙ c.in_ok-stops.ensures)
    ∙ length-map c.args.connections.now stop_in)) c.in_ok-plan.ensures.plan)

pub returns : goal.returns
returns g c =
    let stops : c.as_slice-stops.result.now ≡ map stop_in c.args.connections.now =
    c.as_slice-stops.ensures.value ∙ c.in_ok-stops.ensures in
    IfOk-weaker c.settle.result _ _ (λ settled done. record {
      plan = c.as_slice.result.now;
      planned = rw c.as_slice.ensures.value c.in_ok-plan.ensures.plan;
      done = rw stops at done;
      inside = parts-within _ _ settled _ done (rw c.as_slice.ensures.value (jobs-inside
          c.args.division.now.frames_shown _ _ _ _ refl c.in_ok-plan.ensures.plan));
    }) c.settle.ensures.settled
