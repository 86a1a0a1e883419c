use Rattle.std.proofs.Common.{ap, inl, inr, refl, subst, true, ◌∙◌, ◌≡◌}
use Rattle.std.proofs.lemmas.Result.{err_from_is_err_and}
use Rattle.std.specs.Prelude.{is_ok, not}
use Rattle.capture_parts.specs.Outside.{MadeFolder}
use Rattle.split_program.proofs.program.split_from.Goals as goal

pub returns-in_err-header : goal.returns-in_err-header
returns-in_err-header g c =
    let p = err_from_is_err_and c.from_residual-in_err-header.result c.from_residual-in_err-header.ensures.1 in
    rw (p.1, p.2) (inl (refl, c.in_err-header.ensures.failed))

pub returns : goal.returns
returns g c =
    let folder = c.as_str-folder.ensures.value in
    let made : is_ok c.make_folder.result ≡ true = c.is_err.ensures.negation ∙ ap not c.if-is_err.false in
    rw c.cleaned.ensures.same (inr (inr (
      c.in_ok-header.header,
      g.I.Read.remaining c.begin.new.reader,
      c.in_ok-paths.paths,
      c.make_folder.new.self,
      c.split_behind-answer.new.outside,
      c.in_ok-header.ensures.read,
      c.in_ok-header.ensures.taken,
      rw folder at c.in_ok-paths.ensures.parts,
      c.in_ok-paths.ensures.count,
      rw folder at c.in_ok-paths.ensures.summary,
      subst (λ p. g.O.Outside.does c.args.outside.now (MadeFolder p true) c.make_folder.new.self) folder
          (subst (λ done. g.O.Outside.does c.args.outside.now (MadeFolder c.as_str-folder.result.now done)
          c.make_folder.new.self) made c.make_folder.ensures),
      c.split_behind-answer.ensures,
      rw folder at c.cleaned.ensures.removed,
    )))
