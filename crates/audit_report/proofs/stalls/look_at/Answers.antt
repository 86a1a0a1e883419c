use Rattle.std.proofs.Common.{subst, sym, ◌<◌, ◌^◌}
use Rattle.audit_terms.specs.{Place.place_number, declared.timed_findings.TimedFinding.TimedFinding}
use Rattle.audit_report.proofs.FrameNumbers.{nanos_timely}
use Rattle.audit_report.proofs.stalls.look_at.Goals as goal

pub take_in-requires-clause-found : goal.take_in-requires-clause-found
take_in-requires-clause-found c =
    subst (λ (one : TimedFinding). one.nanos < 2 ^ 63) (sym c.timed_in.ensures)
    (nanos_timely 0 c.args.frames.now (place_number c.args.found.now.place) c.requires.frames)
