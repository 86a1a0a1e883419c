use Rattle.std.proofs.Common.{append-nil, sym}
use Rattle.fault_rules.proofs.Unmoved.{live_says_nothing}
use Rattle.fault_rules.proofs.window_rules.say_live.Goals as goal

pub returns-then-leaves_window-clause-said : goal.returns-then-leaves_window-clause-said
returns-then-leaves_window-clause-said c =
    let leaves = rw c.if-leaves_window.true at c.leaves_window.ensures in
    let met = c.args.met.now in
    rw (live_says_nothing met.side met.stream met.initial.now met.step.now c.args.before.now leaves)
    (sym (append-nil c.args.found.now.items))
