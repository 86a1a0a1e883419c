use Rattle.std.proofs.Common.{ap, sym}
use Rattle.stop_desk.specs.code.Board.{Job}
use Rattle.h2audit.proofs.Flows.{flow_jobs-at}
use Rattle.h2audit.proofs.flow_round.FlowRoundRound.connection.Goals as goal

pub returns : goal.returns
returns c = λ one is.
    sym (ap (λ (job : Job). job.connection) (flow_jobs-at c.args.self.now.held c.args.job one is))
