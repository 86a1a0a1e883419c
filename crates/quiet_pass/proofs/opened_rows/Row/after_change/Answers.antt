use Rattle.stream_credit.proofs.Words.{refl, subst, same_Some}
use Rattle.quiet_pass.specs.code.Rows.{IsRowMoved}
use Rattle.quiet_pass.proofs.opened_rows.Row.after_change.Goals as goal

pub returns-clause-moved : goal.returns-clause-moved
returns-clause-moved c = λ x e.
    subst (IsRowMoved c.args.before.now c.args.after.now c.args.self.now) (same_Some _ _ e)
    (record { same = refl; moved = c.held_after_change.ensures _ c.in_ok-held_after_change.was })
