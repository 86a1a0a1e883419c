use Rattle.std.proofs.Common.{arith}
use Rattle.h2_frames.proofs.Growths.{fed-short, flow-fed}
use Rattle.h2_frames.proofs.Words.{Client, Server}
use Rattle.h2_frames.specs.code.Growths.{both_fed}
use Rattle.h2_frames.proofs.connection.ConnectionCutter.finish.Goals as goal

pub ending-ending-requires : goal.ending-ending-requires
ending-ending-requires g c =
    let (grown, has) = c.requires in
    (both_fed grown, has.fed, omega (arith, has.short, fed-short g.V.FrameVisitor.after grown))

pub returns : goal.returns
returns g c = λ grown client server has sent answered started.
    c.ending-ending.ensures (both_fed grown) client server has.fed (flow-fed Client grown client has.in_order sent)
    (flow-fed Server grown server has.in_order answered) started
