use Rattle.std.proofs.Common.{subst}
use Rattle.std.proofs.lemmas.Result.{on_ok_weaker}
use Rattle.tcp_streams.proofs.Words.{◌∙◌, List}
use Rattle.tcp_streams.proofs.Words.{sym}
use Rattle.tcp_streams.specs.code.Flows.{AreWaiting}
use Rattle.tcp_streams.specs.code.Side.{Sent}
use Rattle.tcp_streams.proofs.{Lists.both_ok, Waits.answered-is, Waits.next-of-taken, Waits.none-waits}
use Rattle.tcp_streams.proofs.Waits.{taken-now, unknown-is, waits-more}
use Rattle.tcp_streams.proofs.connection_flows.ConnectionFlows.take.Goals as goal

pub returns-then-has_to_wait : goal.returns-then-has_to_wait
returns-then-has_to_wait g c = λ opening sent last h next.
    on_ok_weaker c.push.result
    (λ pushed. waits-more g.V.GrowthVisitor.after opening sent last c.args.self.now h c.args.segment.now
    c.args.payload.now c.requires.sent next c.push.new.self pushed
    (sym (c.has_to_wait.ensures h.waiting h.are_waiting) ∙ c.if-has_to_wait.true))
    (c.push.ensures h.waiting h.are_waiting)

pub take_answer-requires-clause-unknown : goal.take_answer-requires-clause-unknown
take_answer-requires-clause-unknown g c =
    (answered-is c.args.self.now.both.client c.args.self.now.both.server_side c.args.segment.now
    (sym c.is_answered_by.ensures ∙ c.if-is_answered_by.true)).0

pub take_answer-requires-clause-answers : goal.take_answer-requires-clause-answers
take_answer-requires-clause-answers g c =
    (answered-is c.args.self.now.both.client c.args.self.now.both.server_side c.args.segment.now
    (sym c.is_answered_by.ensures ∙ c.if-is_answered_by.true)).1

pub take-requires-clause-next : goal.take-requires-clause-next
take-requires-clause-next g c =
    let (opening, sent, last, h, next) = c.requires.next in (
      h.taken,
      h.low,
      h.are_taken,
      next-of-taken g.V.GrowthVisitor.after opening sent last c.args.self.now h c.args.segment.now next,
    )

pub returns : goal.returns
returns g c = λ opening sent last h next.
    let after = g.V.GrowthVisitor.after in
    let flows = c.args.self.now in
    let s = c.args.segment.now in
    let payload = c.args.payload.now in
    let has = sym (c.has_to_wait.ensures h.waiting h.are_waiting) ∙ c.if-has_to_wait.false in
    let not = sym c.is_answered_by.ensures ∙ c.if-is_answered_by.false in
    let none = none-waits flows.both.client h.taken h.waiting flows.both.server_side s payload h.waits has not in
    both_ok c.take.result (λ taken same.
    taken-now after opening sent last flows h s payload c.requires.sent next none c.take.new.self same
    (taken h.taken h.low h.are_taken (next-of-taken after opening sent last flows h s next))
    (unknown-is flows.both.client flows.both.server_side h.waiting s payload has not)
    (subst (λ (l : List Sent). AreWaiting l flows.waiting) none h.are_waiting))
    c.take.ensures.taken c.take.ensures.same
