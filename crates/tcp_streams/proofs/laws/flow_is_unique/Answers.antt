use Rattle.tcp_streams.proofs.UniqueFlow.{IsFlow-unique}
use Rattle.tcp_streams.proofs.laws.flow_is_unique.Goals as goal

pub returns : goal.returns
returns c = IsFlow-unique
