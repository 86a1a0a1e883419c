use Rattle.std.proofs.Common.{drop}
use Rattle.split_program.specs.Program.{RemovesParts}
use Rattle.split_program.proofs.outputs.remove_parts.Given as goal

-- what removes those that are left removes all
abbrev pub invariant-loop-part : goal.invariant-loop-part
invariant-loop-part g l = (last : _) → RemovesParts g.O.Outside.does l.outside (drop l.part-index l.paths) last
    → RemovesParts g.O.Outside.does l.initial.outside l.paths last
