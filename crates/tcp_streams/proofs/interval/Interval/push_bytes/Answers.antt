use Rattle.std.proofs.Common.{arith}
use Rattle.std.proofs.lemmas.Grind.{common_steps}
use Rattle.std.proofs.lemmas.List.{append-nil, map-append}
use Rattle.std.proofs.lemmas.List.Folds.{concat-append}
use Rattle.tcp_streams.proofs.interval.Interval.push_bytes.Goals as goal

pub returns : goal.returns
returns c = grind (arith, common_steps, map-append, concat-append, append-nil, c.in_ok-push.ensures.items)
