use Rattle.std.proofs.Common.{arith}
use Rattle.std.proofs.lemmas.Int.{ints, to_z-of_z}
use Rattle.conn_scan.proofs.credits.Credit.with.Goals as goal

pub returns : goal.returns
returns c = record { sum = omega (arith, ints); high = grind (arith, to_z-of_z); low = grind (arith, to_z-of_z) }
