use Rattle.std.proofs.Common.{◌≡◌, ◌++◌, drop, map}
use Rattle.std.specs.List.{flat_map}
use Rattle.quiet_pass.specs.code.WholeStreams.{whole_after, whole_said}
use Rattle.quiet_pass.proofs.whole_streams.said_each.Given as goal

-- what was found and made so far, with what the others give, is all
abbrev pub invariant-loop-at : goal.invariant-loop-at
invariant-loop-at l = record {
  said : l.found.items ++ flat_map (whole_said l.before l.step) (drop l.at l.list)
      ≡ l.fn.found.items ++ flat_map (whole_said l.before l.step) l.list;
  after : l.made.items ++ map (whole_after l.before l.step) (drop l.at l.list)
      ≡ map (whole_after l.before l.step) l.list;
}
