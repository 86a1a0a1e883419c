use Rattle.std.proofs.Common.{ap, append-nil, arith, ◌++◌, ◌∙◌}
use Rattle.std.{proofs.lemmas.List.drop_all, specs.Prelude.codes}
use Rattle.audit_report.specs.Line.{field}
use Rattle.audit_report.proofs.moments.spell.Goals as goal

pub returns-clause-put : goal.returns-clause-put
returns-clause-put c =
    c.put_field.ensures.put
    ∙ ap (λ l. field (codes " record ") c.args.rec ++ l)
    (c.put_field-end.ensures.put
    ∙ ap (λ l. field (codes " time ") c.args.nanos ++ l) (drop_all 512 c.args.line.now (omega arith))
    ∙ append-nil (field (codes " time ") c.args.nanos))
