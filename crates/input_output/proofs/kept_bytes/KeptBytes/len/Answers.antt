use Rattle.std.proofs.Common.{arith}
use Rattle.input_output.proofs.Bytes.{sizes}
use Rattle.input_output.proofs.kept_bytes.KeptBytes.len.Goals as goal

pub returns : goal.returns
returns c = omega (arith, sizes c.self.inside c.args.self.now c.self.invariant c.self.view_is)
