use Rattle.tcp_streams.proofs.{Belongings.connections-shown, FlowLemmas.flows-fit}
use Rattle.tcp_streams.proofs.laws.flows_fit.Goals as goal

pub returns : goal.returns
returns c = λ packets size found numbered rise are.
    flows-fit packets size found numbered rise (connections-shown packets found are)
