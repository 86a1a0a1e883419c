use Rattle.stream_credit.proofs.Words.{ap, ◌∙◌, sym, OnTrue_from, option_copied, ltb-true}
use Rattle.quiet_pass.proofs.RowLists.{past-last}
use Rattle.quiet_pass.proofs.opened_rows.is_above_all.Goals as goal

pub returns-in-Some : goal.returns-in-Some
returns-in-Some c =
    OnTrue_from _ _ (λ below.
    past-last 0 c.args.rows.now c.in-Some.row.now c.args.stream
    (sym c.last.ensures.value ∙ ap option_copied c.in-Some.is) (ltb-true _ _ below))
