use Rattle.std.proofs.Common.{ap, append-nil, arith, ◌++◌, ◌∙◌}
use Rattle.std.proofs.lemmas.List.{drop_all}
use Rattle.audit_report.proofs.lines.put_last.Goals as goal

-- nothing stands behind the end of all
pub returns-clause-put : goal.returns-clause-put
returns-clause-put c =
    let word = c.args.word.now in
    c.put_word.ensures.put ∙ ap (λ l. word ++ l) (drop_all 512 c.args.line.now (omega arith)) ∙ append-nil word
