use Rattle.std.proofs.Common.{arith}
use Rattle.std.proofs.lemmas.Int.{ints}
use Rattle.quiet_pass.proofs.held_streams.moved_by.Goals as goal

pub returns : goal.returns
returns c = omega (arith, ints)
