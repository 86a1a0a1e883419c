use Rattle.std.proofs.lemmas.Result.{MatchResult-from_both}
use Rattle.h2audit.proofs.program.audit_input.Goals as goal

pub returns-in-Some-clause-file : goal.returns-in-Some-clause-file
returns-in-Some-clause-file g c =
    let opened = c.open-opened in
    let audited = c.audit_file.ensures in
    let either = MatchResult-from_both opened.result _ _ audited.opened audited.unopened in
    rw c.in-Some.is (
      opened.result,
      rw c.as_str.ensures.value at opened.ensures.opened,
      rw opened.ensures.same at either,
    )
