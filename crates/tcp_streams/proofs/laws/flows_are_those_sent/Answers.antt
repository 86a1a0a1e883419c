use Rattle.tcp_streams.proofs.SentFlows.{flow-sent}
use Rattle.tcp_streams.proofs.laws.flows_are_those_sent.Goals as goal

pub returns : goal.returns
returns c = flow-sent
