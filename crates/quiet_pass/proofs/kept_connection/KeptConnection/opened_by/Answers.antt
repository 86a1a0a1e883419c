use Rattle.stream_credit.proofs.Words.{subst, same_Some, None, true}
use Rattle.quiet_pass.proofs.ConnectionLemmas.{opening-met}
use Rattle.quiet_pass.specs.code.Connection.{IsConnectionAfter}
use Rattle.quiet_pass.proofs.kept_connection.KeptConnection.opened_by.Goals as goal

pub returns : goal.returns
returns c = λ x e.
    subst (IsConnectionAfter c.args.frame.now true None c.args.self.now) (same_Some _ _ e)
    (opening-met c.args.frame.now c.args.self.now c.args.credit c.in_ok-opened.opened c.requires.unpromised
    c.requires.credit (c.opened_after.ensures _ c.in_ok-opened.was))
