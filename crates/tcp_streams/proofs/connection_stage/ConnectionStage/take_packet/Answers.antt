use Rattle.std.proofs.Common.{OnOk, subst}
use Rattle.tcp_streams.proofs.Words.{Packet, sym}
use Rattle.tcp_streams.specs.code.Opened.{AreOpened, IsNextPacketOf, with_handed}
use Rattle.tcp_streams.proofs.connection_stage.ConnectionStage.take_packet.Goals as goal

pub hand_on-requires-clause-sent : goal.hand_on-requires-clause-sent
hand_on-requires-clause-sent g c =
    let (past, are, next) = c.requires in
    (subst (λ (p : Packet). IsNextPacketOf past p c.args.payload.now) c.in-Segment.is next).0

pub hand_on-requires-clause-next : goal.hand_on-requires-clause-next
hand_on-requires-clause-next g c =
    let (past, are, next) = c.requires in
    (past, are, (subst (λ (p : Packet). IsNextPacketOf past p c.args.payload.now) c.in-Segment.is next).1)

pub returns-in-Segment : goal.returns-in-Segment
returns-in-Segment g c = λ past are next.
    let after = g.V.ConnectionVisitor.after in
    let payload = c.args.payload.now in
    let here = subst (λ (p : Packet). IsNextPacketOf past p payload) c.in-Segment.is next in
    subst (λ (p : Packet). OnOk c.hand_on.result (AreOpened after (with_handed past (p, payload)) c.hand_on.new.self))
    (sym c.in-Segment.is) (c.hand_on.ensures past are here.1)

pub returns-in-Skipped : goal.returns-in-Skipped
returns-in-Skipped g c = λ past are next.
    subst (λ (p : Packet). AreOpened g.V.ConnectionVisitor.after (with_handed past (p, c.args.payload.now))
    c.args.self.now) (sym c.in-Skipped.is) are

pub returns-in-Refused : goal.returns-in-Refused
returns-in-Refused g c = λ past are next.
    subst (λ (p : Packet). AreOpened g.V.ConnectionVisitor.after (with_handed past (p, c.args.payload.now))
    c.args.self.now) (sym c.in-Refused.is) are
