use Rattle.stream_credit.proofs.Words.{◌∙◌, ap, side_of, sym, Sides}
use Rattle.audit_terms.specs.declared.last_frames.LastFrame.{LastFrame}
use Rattle.quiet_pass.proofs.PassLemmas.{rest-still, step-met}
use Rattle.quiet_pass.proofs.passes.QuietPass.meet_still.Goals as goal
use Rattle.quiet_pass.specs.declared.passes.QuietPass.{QuietPass}

pub returns-clause-quiet : goal.returns-clause-quiet
returns-clause-quiet c = λ before brought state stands.
    let last = c.keep_last.ensures in
    let change = c.if-not-meet_change.ensures in
    step-met c.args.frame.now before c.meet_change.new.self state stands
    (rest-still c.args.self.now brought (sym c.is_unmatched.ensures ∙ c.if-is_unmatched.false) c.if-frame-ne0.false
    c.requires.unpromised change.connection change.windows
    (ap (λ (one : QuietPass). one.pending) change.rest) (ap (λ (one : QuietPass). one.last) change.rest)
    (ap (λ (one : QuietPass). one.initial) change.rest) (ap (λ (one : QuietPass). one.streams) change.rest))
    c.keep_last.new.last
    (λ previous e.
    c.if-not-is_followed.ensures previous
    (c.of.ensures ∙ ap (λ (last : Sides LastFrame). side_of c.args.frame.now.side last) brought.last ∙ e))
    last.client last.server
