use Rattle.stream_credit.proofs.Words.{refl}
use Rattle.quiet_pass.proofs.PassLemmas.{rest-stream}
use Rattle.quiet_pass.proofs.passes.QuietPass.meet_opening.Goals as goal

pub returns-clause-quiet : goal.returns-clause-quiet
returns-clause-quiet c =
    rest-stream c.requires.plain (rw c.if-not-branch.false at c.in_ok-open.ensures.quiet)
    (c.opened_by.ensures _ c.in-Some.is) refl refl refl
