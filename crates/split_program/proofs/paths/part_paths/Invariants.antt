use Rattle.std.proofs.Common.{◌≡◌, length}
use Rattle.split_program.specs.Paths.{AreNamed}
use Rattle.split_program.proofs.paths.part_paths.Given as goal

abbrev pub invariant-loop-index : goal.invariant-loop-index
invariant-loop-index l = record {
  named : AreNamed l.folder 1 l.paths.items;
  count : length l.paths.items ≡ l.index;
}
