use Rattle.std.proofs.Common.{◌∙◌}
use Rattle.h2audit.proofs.Flows.{are-made, flow_jobs-length, flow_jobs-within}
use Rattle.h2audit.proofs.each_connection.flows_each.Goals as goal

pub settle-requires-clause-connections : goal.settle-requires-clause-connections
settle-requires-clause-connections g c κs within =
    rw (c.as_slice.ensures.len, c.in_ok-resize.ensures.len) (flow_jobs-within c.args.held.now)

pub returns : goal.returns
returns g c =
    let settled = c.in_ok-settled.ensures.settled in
    are-made c.args.division.now.frames_shown c.args.held.now c.in_ok-settled.settled.parts.items
    (settled.count ∙ flow_jobs-length c.args.held.now)
    (λ n part one is there. (settled.in_order n part is).1 one there)
