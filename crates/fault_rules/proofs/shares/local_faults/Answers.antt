use Rattle.fault_rules.proofs.{ShareLemmas.orderly-All, Terms.AreBefores, Terms.subst, Terms.sym}
use Rattle.fault_rules.proofs.shares.local_faults.Goals as goal

pub faults_in_shares-requires-clause-in_range : goal.faults_in_shares-requires-clause-in_range
faults_in_shares-requires-clause-in_range g c κs within = orderly-All 0 c.args.frames.now c.requires.frames

pub faults_in_shares-requires-clause-befores : goal.faults_in_shares-requires-clause-befores
faults_in_shares-requires-clause-befores g c κs within =
    subst (AreBefores c.max-size.result c.args.frames.now) (sym c.as_slice.ensures.value) c.in_ok-befores.ensures

pub faults_after-requires : goal.faults_after-requires
faults_after-requires g c = orderly-All 0 c.args.frames.now c.requires.frames
