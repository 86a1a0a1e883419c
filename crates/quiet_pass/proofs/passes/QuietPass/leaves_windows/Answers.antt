use Rattle.stream_credit.proofs.Words.{◌∙◌, OnTrue_from, eqb-true, sym}
use Rattle.quiet_pass.proofs.StreamLemmas.{same-sides}
use Rattle.quiet_pass.proofs.passes.QuietPass.leaves_windows.Goals as goal

pub returns-then-after-self : goal.returns-then-after-self
returns-then-after-self c =
    OnTrue_from _ _ (λ e.
    sym (same-sides c.initial_after-after.result c.args.self.now.initial c.if-after-self.true (eqb-true _ _ e))
    ∙ c.initial_after-after.ensures)
