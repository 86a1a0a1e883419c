use Rattle.std.proofs.Common.{append-nil, append_assoc, ◌∙◌}
use Rattle.fault_rules.proofs.connection_rules.say_connection_window.Goals as goal

pub returns-clause-said : goal.returns-clause-said
returns-clause-said c =
    let count = c.count_of_frame-count.ensures in
    c.in_ok-say_each.ensures
    ∙ rw (
      c.in_ok-say_zero_grant.ensures,
      c.overflows.ensures,
      c.overruns.ensures,
      c.stall_ends.ensures,
      c.stall_begins.ensures,
      c.moves.ensures,
      count.before,
      count.after,
      count.content,
    ) (simp (append_assoc, append-nil))
