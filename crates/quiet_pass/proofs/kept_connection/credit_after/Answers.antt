use Rattle.std.proofs.Common.{w64}
use Rattle.std.proofs.lemmas.Int.{to_z-of_z}
use Rattle.stream_credit.proofs.Words.{◌∙◌, subst, sym}
use Rattle.quiet_pass.proofs.ConnectionLemmas.{counted-credit}
use Rattle.quiet_pass.specs.code.Connection.{IsCountedCredit}
use Rattle.quiet_pass.proofs.kept_connection.credit_after.Goals as goal

pub returns : goal.returns
returns c = λ after e.
    let frame = c.args.frame.now in
    counted-credit c.args.side frame c.args.credit after (sym c.grants_nothing.ensures ∙ c.if-grants_nothing.false)
    (subst (λ credit. IsCountedCredit c.args.side frame credit after) (to_z-of_z w64 c.args.credit c.ranges.credit)
    (c.balance_after.ensures after e))
