use Rattle.std.proofs.Common.{subst, sym}
use Rattle.std.proofs.lemmas.Result.{on_ok_weaker}
use Rattle.h2_frames.proofs.Feeding.{cut_none, cut_one, fits-made, on_ok_all}
use Rattle.h2_frames.specs.code.Cutter.{IsBegun}
use Rattle.h2_frames.proofs.cutter.SideCutter.hand_on_whole.Goals as goal

pub hand_on-requires-clause-fits : goal.hand_on-requires-clause-fits
hand_on-requires-clause-fits g c =
    let (tail, is, one, room) = c.requires.begun in
    let (header, payload, split, makes, begun) = c.in-Some.ensures.taken tail is one in
    fits-made c.in-Some.spelled header payload makes c.in-Some.ensures.length c.in-Some.ensures.stream

pub returns-in-Some-clause-cut : goal.returns-in-Some-clause-cut
returns-in-Some-clause-cut g c = λ tail is one.
    let (header, payload, split, makes, begun) = c.in-Some.ensures.taken tail is one in
    on_ok_weaker c.hand_on.result
    (λ handed. cut_one g.V.FrameVisitor.after c.args.source c.args.stage.now c.hand_on.new.self tail header payload
    c.in-Some.spelled c.take_whole.new.self split makes begun handed)
    (on_ok_all c.hand_on.result _ _ c.hand_on.ensures)

pub returns-in-None-clause-cut : goal.returns-in-None-clause-cut
returns-in-None-clause-cut g c = λ tail is one.
    let (none, same) = c.in-None.ensures.taken tail is one in
    cut_none g.V.FrameVisitor.after c.args.source c.args.stage.now tail c.take_whole.new.self none
    (subst (λ cutter. IsBegun tail cutter) (sym same) is)
