use Rattle.stream_credit.proofs.Words.{◌∙◌, refl, same_Some, subst, sym}
use Rattle.quiet_pass.specs.code.Rows.{IsOpened}
use Rattle.quiet_pass.proofs.opened_rows.Row.opened.Goals as goal

pub returns : goal.returns
returns c = λ x e.
    subst (IsOpened c.args.stream c.args.initial.now c.args.frame.now) (same_Some _ _ e) (record {
      same = refl;
      full = sym c.is_low.ensures ∙ c.if-is_low.false;
      by = c.opened.ensures _ c.in_ok-standings.was;
    })
