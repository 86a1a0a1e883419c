use Rattle.std.proofs.lemmas.Result.{IfOk-weaker}
use Rattle.split_program.proofs.paths.part_path.Goals as goal

pub returns : goal.returns
returns c = IfOk-weaker c.format.result _ _ (λ path is. rw (← c.zeros-zeros.ensures) is) c.format.ensures.ok
