use Rattle.stream_credit.proofs.Words.{refl, sym, ◌∙◌}
use Rattle.quiet_pass.proofs.ConnectionLemmas.{lone-met}
use Rattle.quiet_pass.proofs.PassLemmas.{rest-stream}
use Rattle.quiet_pass.proofs.passes.QuietPass.meet_stream.Goals as goal

pub meet_opening-requires-clause-credit : goal.meet_opening-requires-clause-credit
meet_opening-requires-clause-credit c = c.credit_after_lone.ensures c.in-Some.credit c.in-Some.is

pub returns-in-Quiet-clause-quiet : goal.returns-in-Quiet-clause-quiet
returns-in-Quiet-clause-quiet c =
    rest-stream c.requires.plain (c.in-Quiet.ensures.quiet refl c.args.self.now.initial)
    (lone-met c.args.frame.now c.args.self.now.connection c.in-Some.credit
    (sym c.is_server_promise.ensures ∙ c.if-is_server_promise.false)
    (c.credit_after_lone.ensures c.in-Some.credit c.in-Some.is)) refl refl refl

pub returns-in-WithoutRow-clause-quiet : goal.returns-in-WithoutRow-clause-quiet
returns-in-WithoutRow-clause-quiet c =
    rw (c.in-WithoutRow.ensures.left (λ e. cc)) at c.meet_opening.ensures.quiet
