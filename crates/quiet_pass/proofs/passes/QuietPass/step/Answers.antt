use Rattle.stream_credit.proofs.Words.{◌∙◌, OnTrue_at, OnTrue_from}
use Rattle.quiet_pass.proofs.PassLemmas.{step-met}
use Rattle.quiet_pass.proofs.passes.QuietPass.step.Goals as goal

pub returns-then-is_quiet-clause-quiet : goal.returns-then-is_quiet-clause-quiet
returns-then-is_quiet-clause-quiet c =
    let last = c.keep_last.ensures in
    OnTrue_from c.in_ok-is_quiet.is_quiet _ (λ quiet. λ state stands.
    step-met c.args.frame.now c.args.self.now c.meet_rest.new.self state stands
    (OnTrue_at quiet c.in_ok-is_quiet.ensures.quiet) c.keep_last.new.last
    (λ previous e. c.if-not-is_followed.ensures previous (c.of.ensures ∙ e)) last.client last.server)
