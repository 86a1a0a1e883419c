use Rattle.stream_credit.proofs.Words.{subst}
use Rattle.quiet_pass.specs.code.AllStreams.{AreKept}
use Rattle.quiet_pass.specs.declared.all_streams.AllStreams.{AllStreams}
use Rattle.quiet_pass.proofs.all_streams.AllStreams.meet.Goals as goal

pub returns-in-Rows-clause-quiet : goal.returns-in-Rows-clause-quiet
returns-in-Rows-clause-quiet c = λ quiet initial streams h.
    c.meet.ensures.quiet quiet initial streams (subst (λ (kept : AllStreams). AreKept streams kept) c.in-Rows.is h)
