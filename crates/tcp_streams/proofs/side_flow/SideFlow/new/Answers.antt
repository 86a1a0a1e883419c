use Rattle.tcp_streams.proofs.Words.{ap, length, refl}
use Rattle.tcp_streams.proofs.SideFlowSteps.{none-held, starts}
use Rattle.tcp_streams.proofs.side_flow.SideFlow.new.Goals as goal

pub returns-clause-stands : goal.returns-clause-stands
returns-clause-stands g c = starts _ refl (ap length c.new.ensures.empty)

pub returns-clause-holds : goal.returns-clause-holds
returns-clause-holds g c = λ of.
    none-held (g.K.Content.holds of) c.new.result (ap length c.new.ensures.empty)
