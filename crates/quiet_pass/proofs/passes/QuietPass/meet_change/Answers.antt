use Rattle.stream_credit.proofs.Words.{◌∙◌, ap, not, refl, OnTrue_from}
use Rattle.quiet_pass.proofs.ShiftLemmas.{none-of}
use Rattle.quiet_pass.proofs.passes.QuietPass.meet_change.Goals as goal

pub returns-then-is_none-clause-windows : goal.returns-then-is_none-clause-windows
returns-then-is_none-clause-windows c =
    let none = none-of c.args.change.now (c.is_none.ensures ∙ ap not c.if-is_none.true) in
    OnTrue_from c.meet_lone.result _ (λ _. rw none refl)

pub returns-then-is_none-clause-connection : goal.returns-then-is_none-clause-connection
returns-then-is_none-clause-connection c =
    let none = none-of c.args.change.now (c.is_none.ensures ∙ ap not c.if-is_none.true) in
    rw none c.meet_lone.ensures.quiet
