use Rattle.std.proofs.Common.{◌++◌, arith, length-append, length-take-le, take}
use Rattle.h2_frames.proofs.Feeding.{less_room}
use Rattle.h2_frames.proofs.cutter.SideCutter.complete.Goals as goal

pub hand_on_whole-requires-clause-begun : goal.hand_on_whole-requires-clause-begun
hand_on_whole-requires-clause-begun g c =
    let (tail, is, none, room) = c.requires.begun in
    let more = c.args.more.now in
    let used = c.in_ok-used.used in
    let got = c.in_ok-used.ensures tail is none in (
      tail ++ take used more,
      got.begun,
      got.own,
      less_room g.V.FrameVisitor.after _ _ c.args.stage.now room (omega (
        arith,
        got.within,
        length-append tail (take used more),
        length-take-le used more got.within,
      )),
    )

pub returns-clause-cut : goal.returns-clause-cut
returns-clause-cut g c = λ tail is none.
    let got = c.in_ok-used.ensures tail is none in
    c.in_ok-hand_on_whole.ensures.cut (tail ++ take c.in_ok-used.used c.args.more.now) got.begun got.own
