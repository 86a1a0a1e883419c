use Rattle.fault_rules.proofs.Terms.{arith, ints}
use Rattle.fault_rules.proofs.window_rules.step_difference.Goals as goal

pub returns : goal.returns
returns c = omega (arith, ints, c.from.ensures, c.from-2.ensures, c.from-3.ensures, c.from-4.ensures)
