use Rattle.std.proofs.Common.{◌+◌, refl}
use Rattle.std.proofs.lemmas.Result.{on_ok_weaker}
use Rattle.packet_heads.proofs.Walking.{decoded_more, next_packet}
use Rattle.packet_heads.proofs.stage.PacketStageRecordVisitor.take.Goals as goal

pub take-requires : goal.take-requires
take-requires g c =
    let (seen, is, comes) = c.requires in
    let stage = c.args.self.now in (
      is.handed,
      is.visited,
      next_packet g.V.PacketVisitor.after c.args.link (stage.count + 1) seen c.args.row.now c.args.packet.now
          c.payload_in-payload.result.now c.decision_on-decided.result stage is comes refl
          c.decision_on-decided.ensures.placed c.payload_in-payload.ensures,
    )

pub returns : goal.returns
returns g c = λ seen is comes.
    let stage = c.args.self.now in
    let next = next_packet g.V.PacketVisitor.after c.args.link (stage.count + 1) seen c.args.row.now c.args.packet.now
    c.payload_in-payload.result.now c.decision_on-decided.result stage is comes refl
    c.decision_on-decided.ensures.placed c.payload_in-payload.ensures in
    on_ok_weaker c.take.result
    (λ visited. decoded_more g.V.PacketVisitor.after c.args.link (stage.count + 1) seen c.args.row.now
    c.args.packet.now c.payload_in-payload.result.now c.decision_on-decided.result stage
    (record { count = stage.count + 1; visitor = c.take.new.self }) is refl c.decision_on-decided.ensures.decided
    c.decision_on-decided.ensures.placed c.payload_in-payload.ensures refl visited)
    (c.take.ensures is.handed is.visited next)
