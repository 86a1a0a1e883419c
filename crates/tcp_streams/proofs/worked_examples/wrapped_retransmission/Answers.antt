use Rattle.tcp_streams.proofs.Wrapped.{wrapped-retransmission}
use Rattle.tcp_streams.proofs.worked_examples.wrapped_retransmission.Goals as goal

pub returns : goal.returns
returns c = wrapped-retransmission
