use Rattle.tcp_streams.proofs.Words.{false≢true, sym, ◌∙◌}
use Rattle.tcp_streams.proofs.SideFlowSteps.{gap-none, gap-some}
use Rattle.tcp_streams.proofs.side_flow.SideFlow.gap.Goals as goal

pub returns-then-is_empty : goal.returns-then-is_empty
returns-then-is_empty g c = λ sources h.
    gap-none sources c.args.self.now h (c.is_empty.ensures.0 c.if-is_empty.true)

pub returns-else-is_empty : goal.returns-else-is_empty
returns-else-is_empty g c = λ sources h.
    gap-some sources c.args.self.now h (λ e. false≢true (sym c.if-is_empty.false ∙ c.is_empty.ensures.1 e))
