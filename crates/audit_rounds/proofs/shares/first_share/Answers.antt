use Rattle.audit_rounds.proofs.Batches.{batch-parts}
use Rattle.audit_rounds.proofs.shares.first_share.Goals as goal

pub returns-clause-other : goal.returns-clause-other
returns-clause-other c =
    rw c.split_at.ensures.back (batch-parts c.args.connections.now c.loop-count.count c.requires.batch).1
