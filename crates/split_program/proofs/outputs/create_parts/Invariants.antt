use Rattle.std.proofs.Common.{take, vec_len, ◌≡◌}
use Rattle.split_program.specs.Program.{MakesParts}
use Rattle.split_program.proofs.outputs.create_parts.Given as goal

abbrev pub invariant-loop-part : goal.invariant-loop-part
invariant-loop-part g l = record {
  made : MakesParts g.O.Outside.does g.F.Write.contents l.header l.initial.outside (take l.part-index l.paths)
      l.parts.items l.outside;
  count : vec_len l.parts ≡ l.part-index;
}
