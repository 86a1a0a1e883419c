use Rattle.std.proofs.Common.{refl, subst}
use Rattle.h2audit.specs.Account.{HasGiven}
use Rattle.h2audit.proofs.program.audit_file.Goals as goal

pub returns-in-Ok-clause-opened : goal.returns-in-Ok-clause-opened
returns-in-Ok-clause-opened g c =
    let reader = c.run-audited.new.reader in
    let given = subst (λ source. HasGiven (g.F.Read.remaining source) reader) c.new-reader.ensures.reader
    c.run-audited.ensures.given in
    rw c.in-Ok.is (reader, refl, given, c.run-audited.ensures.tells)
