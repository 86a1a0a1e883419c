use Rattle.stream_credit.proofs.Words.{refl, sym, ◌∙◌, OnTrue_at, OnTrue_from}
use Rattle.quiet_pass.proofs.PassLemmas.{rest-stream, unmet}
use Rattle.quiet_pass.proofs.passes.QuietPass.meet_connection.Goals as goal

pub returns-clause-quiet : goal.returns-clause-quiet
returns-clause-quiet c =
    let unpromised = sym c.is_server_promise.ensures ∙ c.if-is_server_promise.false in
    OnTrue_from c.meet_lone.result _ (λ quiet.
    rest-stream c.requires.plain (λ streams h. unmet _ streams _ c.requires.streamed unpromised h)
    (OnTrue_at quiet c.meet_lone.ensures.quiet) refl refl refl)
