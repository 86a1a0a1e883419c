use Rattle.tcp_streams.proofs.{Lists.both_ok, Waits.answered-now}
use Rattle.tcp_streams.proofs.connection_flows.ConnectionFlows.take_answer.Goals as goal

pub take-requires-clause-next : goal.take-requires-clause-next
take-requires-clause-next g c =
    let (opening, sent, last, h, next) = c.requires.next in
    (sent, last, c.in_ok-answer.ensures.taken opening sent last h, next)

pub returns : goal.returns
returns g c = λ opening sent last h next.
    both_ok c.take.result (λ taken same.
    answered-now g.V.GrowthVisitor.after opening sent last c.args.self.now h c.args.segment.now c.args.payload.now
    c.requires.sent next c.answer.new.self.both c.take.new.self c.answer.new.self.waiting c.requires.unknown
    c.requires.answers (taken sent last (c.in_ok-answer.ensures.taken opening sent last h) next)
    c.in_ok-answer.ensures.client c.in_ok-answer.ensures.client_number c.in_ok-answer.ensures.number same
    c.in_ok-answer.ensures.waiting)
    c.take.ensures.taken c.take.ensures.same
