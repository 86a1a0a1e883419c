use Rattle.std.proofs.Common.{refl, subst}
use Rattle.std.specs.Prelude.{is_ok}
use Rattle.capture_parts.specs.Outside.{RemovedFile}
use Rattle.split_program.proofs.outputs.remove_all.Goals as goal

pub returns : goal.returns
returns g c = (
  is_ok c.remove_file.result,
  is_ok c.remove_folder.result,
  c.remove_parts.new.outside,
  rw c.as_slice.ensures.value at c.remove_parts.ensures,
  (
    c.remove_file.new.self,
    subst (λ p. g.O.Outside.does c.remove_parts.new.outside (RemovedFile p (is_ok c.remove_file.result))
        c.remove_file.new.self)
        c.as_str.ensures.value c.remove_file.ensures,
    (c.remove_folder.new.self, c.remove_folder.ensures, refl),
  ),
)
