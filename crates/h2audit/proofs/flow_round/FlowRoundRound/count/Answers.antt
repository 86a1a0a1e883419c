use Rattle.std.proofs.Common.{length, ap, ◌∙◌, sym}
use Rattle.h2audit.specs.code.Flows.{FlowView}
use Rattle.h2audit.proofs.Flows.{flow_jobs-length}
use Rattle.h2audit.proofs.flow_round.FlowRoundRound.count.Goals as goal

pub returns : goal.returns
returns c = ap (λ (v : FlowView). length v.held) c.self.view_is ∙ sym (flow_jobs-length c.args.self.now.held)
