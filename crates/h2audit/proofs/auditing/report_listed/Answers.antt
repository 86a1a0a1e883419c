use Rattle.std.proofs.Common.{Bool, Ok, subst}
use Rattle.h2audit.specs.Report.{IsReport}
use Rattle.h2audit.specs.code.Listed.{HasListed}
use Rattle.h2audit.specs.code.Met.{IsMetEnd}
use Rattle.h2audit.proofs.auditing.report_listed.Goals as goal

pub returns-in-Ok-report_of_listed-clause-report : goal.returns-in-Ok-report_of_listed-clause-report
returns-in-Ok-report_of_listed-clause-report g c = λ capture end.
    let met : IsMetEnd HasListed capture (Ok (c.in-Ok.met, c.in-Ok.cut)) = rw c.in-Ok.is at end in
    let answer = c.in-Ok-report_of_listed.answer in
    subst (λ (shown : Bool). IsReport capture shown answer.0 answer.1) c.frames_shown-frames_shown.ensures
    (c.in-Ok-report_of_listed.ensures capture met.0 met.1)
