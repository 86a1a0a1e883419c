use Rattle.std.proofs.Common.{Some, ap, ◌∙◌, rules}
use Rattle.std.proofs.lemmas.List.Sorted.{answers_always}
use Rattle.audit_terms.specs.declared.frames.Frame.{Frame}
use Rattle.audit_report.proofs.FrameNumbers.{frame_numbered_found, frame_numbered_missed}
use Rattle.audit_report.proofs.lookup.search.Goals as goal

-- the closure gives a frame's number
pub returns-in-Ok : goal.returns-in-Ok
returns-in-Ok c =
    ap (λ (frame : Frame). Some frame) c.index-frames-at.is
    ∙ frame_numbered_found c.args.frames.now c.args.number c.in-Ok.at c.index-frames-at.result c.requires
    c.in-Ok.ensures.bound
    (c.in-Ok.ensures.position (λ frame. frame.number) (answers_always _ _ _ (λ f a r g called. search rules)))

pub returns-in-Err : goal.returns-in-Err
returns-in-Err c = frame_numbered_missed c.args.frames.now c.args.number c.in-Err.at c.requires
    (c.in-Err.ensures.position (λ frame. frame.number) (answers_always _ _ _ (λ f a r g called. search rules)))
