use Rattle.audit_rounds.proofs.Words.{IfOk-weaker}
use Rattle.audit_rounds.proofs.Batches.{shown-both}
use Rattle.audit_rounds.proofs.batch.+by_shares+fn-by_shares-join+arg2+fn-by_shares-join+arg3.Goals as goal

pub returns : goal.returns
returns g t c = IfOk-weaker c.both.result _ _ (λ all are.
    shown-both c.args.division.now.frames_shown c.args.connections.now _ _ c.first_share.ensures.whole _ _ all.items
    c.join-one.ensures.first c.join-one.ensures.second are) c.both.ensures
