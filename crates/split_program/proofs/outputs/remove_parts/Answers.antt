use Rattle.std.proofs.Common.{List, drop, refl, subst, sym, ap, ℕ, ◌+◌, ◌∙◌, ◌∷◌, ◌≡◌}
use Rattle.std.specs.Prelude.{is_ok}
use Rattle.std.proofs.lemmas.List.{at_drop_more}
use Rattle.capture_parts.specs.Outside.{RemovedFile}
use Rattle.split_program.specs.declared.paths.PartPaths.{PartPaths}
use Rattle.split_program.proofs.outputs.remove_parts.Goals as goal

pub loop-part-preserved : goal.loop-part-preserved
loop-part-preserved g c = λ last more.
    let at : ℕ = c.loop-part.part-index in
    let paths : List PartPaths = c.args.paths.now in
    let part : PartPaths = c.part-item.result in
    let first : drop at paths ≡ part ∷ drop (at + 1) paths =
    at_drop_more (λ (ps : List PartPaths). ps) paths at part c.loop-part-test.true
    ∙ ap (λ (p : PartPaths). p ∷ drop (at + 1) paths) (sym c.part-item.is) in
    c.loop-part.invariant last (rw first (
      is_ok c.remove_file.result,
      is_ok c.remove_file-in-loop-part.result,
      c.remove_file-in-loop-part.new.self,
      (
        c.remove_file.new.self,
        subst (λ p. g.O.Outside.does c.loop-part.outside (RemovedFile p (is_ok c.remove_file.result))
            c.remove_file.new.self) c.as_str.ensures.value
            c.remove_file.ensures,
        (
          c.remove_file-in-loop-part.new.self,
          subst (λ p. g.O.Outside.does c.remove_file.new.self
              (RemovedFile p (is_ok c.remove_file-in-loop-part.result)) c.remove_file-in-loop-part.new.self)
              c.as_str-in-loop-part.ensures.value c.remove_file-in-loop-part.ensures,
          refl,
        ),
      ),
      more,
    ))
