use Rattle.std.proofs.Common.{Ok}
use Rattle.quiet_pass.specs.code.FoundFlows.{HasMetSent}
use Rattle.h2audit.specs.code.Met.{IsMetEnd}
use Rattle.h2audit.proofs.auditing.report_found.Goals as goal

pub returns-in-Ok-report_of_found-clause-report : goal.returns-in-Ok-report_of_found-clause-report
returns-in-Ok-report_of_found-clause-report g c = λ capture end.
    let met : IsMetEnd (HasMetSent g.S.Showing.frames_shown) capture (Ok
    (c.in-Ok.met, c.in-Ok.cut)) = rw c.in-Ok.is at end in
    c.in-Ok-report_of_found.ensures capture met.0 met.1
