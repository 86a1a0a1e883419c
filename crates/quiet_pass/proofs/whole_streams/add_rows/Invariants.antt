use Rattle.std.proofs.Common.{◌≡◌, ◌++◌, drop, map}
use Rattle.quiet_pass.specs.code.WholeStreams.{whole_of}
use Rattle.quiet_pass.proofs.whole_streams.add_rows.Given as goal

-- those that were added, and those of the other rows, are all
abbrev pub invariant-loop-at : goal.invariant-loop-at
invariant-loop-at l =
    l.list.items ++ map (whole_of l.shift) (drop l.at l.rows) ≡ l.fn.list.items ++ map (whole_of l.shift) l.rows
