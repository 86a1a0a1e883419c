use Rattle.audit_report.proofs.FrameNumbers.{frame_found}
use Rattle.audit_report.proofs.lookup.frame_at.Goals as goal

pub returns-in-Some : goal.returns-in-Some
returns-in-Some c =
    let there = c.in-Some.ensures.lookup in
    frame_found c.args.frames.now c.args.number c.offset_of-offset.result c.in-Some.frame.now c.requires there.3.0
    there.1 c.if-frame-number.true
