use Rattle.stream_credit.proofs.{QuietStreams.ahead-idle}
use Rattle.stream_credit.proofs.quiet_streams.QuietStream.idle.Goals as goal

pub returns : goal.returns
returns c = λ stream changes all s o k a quiet. ahead-idle _ c.idle.ensures c.of.ensures stream changes all s o k a
