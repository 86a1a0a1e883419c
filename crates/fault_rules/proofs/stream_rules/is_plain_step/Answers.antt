use Rattle.std.proofs.Common.{rules}
use Rattle.fault_rules.proofs.Plain.{plain_on}
use Rattle.fault_rules.proofs.stream_rules.is_plain_step.Goals as goal

pub returns-in-Some : goal.returns-in-Some
returns-in-Some c = search (rules, plain_on)
