use Rattle.std.proofs.lemmas.Result.{on_ok_weaker}
use Rattle.tcp_streams.proofs.Opened.{next-of, opened-more}
use Rattle.tcp_streams.specs.code.Opened.{sent_past}
use Rattle.tcp_streams.proofs.connection_stage.ConnectionStagePacketVisitor.take.Goals as goal

pub take_packet-requires : goal.take_packet-requires
take_packet-requires g c =
    let (handed, is, next) = c.requires in (
      sent_past handed,
      is.opened,
      next-of g.V.ConnectionVisitor.after handed c.args.self.now c.args.packet.now c.args.payload.now is next,
    )

pub returns : goal.returns
returns g c = λ handed is next.
    let after = g.V.ConnectionVisitor.after in
    let old = c.args.self.now in
    let packet = c.args.packet.now in
    let payload = c.args.payload.now in
    on_ok_weaker c.take_packet.result
    (λ are. opened-more after handed old c.take_packet.new.self packet payload is next are)
    (c.take_packet.ensures (sent_past handed) is.opened (next-of after handed old packet payload is next))
