use Rattle.audit_core.proofs.JoinedSteps.{streams_have_steps_lem}
use Rattle.audit_core.proofs.laws.steps_join_frames_and_changes.Goals as goal

pub returns-clause-streams : goal.returns-clause-streams
returns-clause-streams c = streams_have_steps_lem
