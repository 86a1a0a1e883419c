use Rattle.audit_rounds.proofs.Words.{IfOk-weaker}
use Rattle.audit_rounds.proofs.Batches.{ready-both}
use Rattle.audit_rounds.proofs.prepared.+fn-prepare_each-join+arg2+fn-prepare_each-join+arg3+prepare_each.Goals as
    goal

pub returns : goal.returns
returns g t c = IfOk-weaker c.both.result _ _ (λ all are.
    ready-both c.args.division.now.frames_shown c.args.connections.now _ _ c.first_share.ensures.whole _ _ all.items
    c.join-one.ensures.first c.join-one.ensures.second are) c.both.ensures
