use Rattle.std.proofs.lemmas.Result.{on_ok_weaker}
use Rattle.std.proofs.Common.{refl}
use Rattle.h2_frames.proofs.Connecting.{cut_fed, fed_cut, server_fed, server_room}
use Rattle.h2_frames.proofs.Feeding.{spells-tail}
use Rattle.h2_frames.proofs.connection.ConnectionCutter.feed_server.Goals as goal

pub feed-requires : goal.feed-requires
feed-requires g c =
    let after = g.V.FrameVisitor.after in
    let (fed, has, few) = c.requires.fed in
    let is = fed_cut after c.args.self.now.greeting fed c.args.self.now c.in_default.not-Other has in
    record {
      begun = (
        is.server_tail,
        is.server_begun,
        spells-tail fed.server.bytes is.server_tail is.server_frames is.server_spells,
        server_room after fed c.args.self.now _ is c.in_default.not-Other few,
      );
      time = c.requires.time;
    }

pub returns-in_default : goal.returns-in_default
returns-in_default g c = λ fed has may.
    let after = g.V.FrameVisitor.after in
    let old = c.args.self.now in
    let is = fed_cut after old.greeting fed old c.in_default.not-Other has in
    let new = record old { server = c.feed.new.self; stage = c.feed.new.stage } in
    on_ok_weaker c.feed.result
    (λ cut. cut_fed after old.greeting _ new c.in_default.not-Other
    (server_fed after c.args.source fed old new c.args.bytes.now c.requires.side may is refl refl cut))
    (c.feed.ensures is.server_tail is.server_begun
    (spells-tail fed.server.bytes is.server_tail is.server_frames is.server_spells))
