use Rattle.audit_rounds.proofs.Words.{◌≡◌, ◌++◌, map, into_iter_items, part_of}
use Rattle.audit_rounds.specs.code.Gathered.{AreGathered}
use Rattle.audit_rounds.proofs.gathering.gathered.Given as goal

-- the parts so far and those that are left are all of them, and what those so far keep is added
abbrev pub invariant-loop-part : goal.invariant-loop-part
invariant-loop-part g l = record {
  parts : l.yielded ++ into_iter_items l.part-iterator ≡ l.fn.parts.items;
  are : AreGathered (map part_of l.yielded) l.fn.connections.items l.all.items;
}
