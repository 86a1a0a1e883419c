use Rattle.std.proofs.lemmas.Result.{on_ok_weaker}
use Rattle.std.proofs.Common.{arith, refl}
use Rattle.tcp_streams.specs.code.Grown.{Growth}
use Rattle.h2_frames.proofs.Growths.{fed-short, may-grow, taken-more}
use Rattle.h2_frames.specs.code.Growths.{both_fed}
use Rattle.h2_frames.proofs.connection.ConnectionCutterGrowthVisitor.take.Goals as goal

pub feed-requires : goal.feed-requires
feed-requires g c =
    let (grown, has, next) = c.requires in
    record {
      fed = (both_fed grown, has.fed, omega (arith, next.room, fed-short g.V.FrameVisitor.after grown));
      time = next.timely;
    }

pub returns : goal.returns
returns g c = λ grown has next.
    let one : Growth =
    record { side = c.args.side; bytes = c.args.bytes.now; rec = c.args.rec; nanos = c.args.nanos } in
    on_ok_weaker c.feed.result
    (λ fed. taken-more g.V.FrameVisitor.after grown one c.args.self.now c.feed.new.self has next fed)
    (c.feed.ensures (both_fed grown) has.fed (may-grow one c.args.side grown refl next))
