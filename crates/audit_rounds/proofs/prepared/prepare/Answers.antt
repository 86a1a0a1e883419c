use Rattle.audit_rounds.proofs.Words.{arith, length-orderly}
use Rattle.audit_rounds.proofs.prepared.prepare.Goals as goal

pub faults_and_split-faults-requires-clause-frames : goal.faults_and_split-faults-requires-clause-frames
faults_and_split-faults-requires-clause-frames g c κs within =
    let l = length-orderly 0 c.args.frames.now (omega arith) c.requires in
    let pairs = c.in_ok-pairs.ensures in
    rw c.as_slice.ensures.value (record {
      orderly = c.requires;
      few = omega arith;
      changes_orderly = pairs.orderly;
      acknowledged = pairs.acknowledged;
    })
