use Rattle.std.proofs.Common.{sym}
use Rattle.fault_rules.proofs.ShareLemmas.{previous-last}
use Rattle.fault_rules.proofs.previous.previous_after_all.Goals as goal

pub returns : goal.returns
returns c = rw (c.last_from.ensures, c.last_from-2.ensures) (sym (previous-last c.args.previous.now c.args.frames.now))
