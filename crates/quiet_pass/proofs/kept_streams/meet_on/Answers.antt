use Rattle.stream_credit.proofs.Words.{sym, ◌∙◌}
use Rattle.quiet_pass.proofs.StreamFrames.{idle-met}
use Rattle.quiet_pass.proofs.kept_streams.meet_on.Goals as goal

pub returns-else-needs_opening-clause-quiet : goal.returns-else-needs_opening-clause-quiet
returns-else-needs_opening-clause-quiet c = λ _ rising initial.
    idle-met c.args.frame.now (sym c.needs_opening.ensures ∙ c.if-needs_opening.false) c.requires initial
    c.args.rows.now.items rising
