use Rattle.std.proofs.Common.{arith, ap, length, sym, ◌∙◌}
use Rattle.report_pages.proofs.Standing.{end-last}
use Rattle.report_pages.proofs.stretches.audited_stretch.Goals as goal

pub returns-else-index-lists-clause-entries : goal.returns-else-index-lists-clause-entries
returns-else-index-lists-clause-entries c = λ shown.
    let lent = c.as_slice-lists.ensures.value in
    let past = (c.in_default.ensures).lookup in
    rw lent (end-last shown c.args.audited.now c.args.index _ (c.requires.within shown)
    (rw (← lent) (grind (arith, past))) (λ same. c.if-index-lists.false (same ∙ ap length (sym lent))))
