use Rattle.std.proofs.Common.{subst}
use Rattle.std.proofs.lemmas.Result.{on_ok_weaker}
use Rattle.tcp_streams.proofs.Words.{arith, length-map, refl}
use Rattle.tcp_streams.proofs.Opened.{joins-now, kept-at, next-sent, opens-now, stray-is, strays-now, unknown-is}
use Rattle.tcp_streams.proofs.Opened.{within}
use Rattle.tcp_streams.specs.code.Flows.{last_of}
use Rattle.tcp_streams.specs.code.Opened.{sent_of}
use Rattle.tcp_streams.specs.code.Side.{Sent, segments_among}
use Rattle.tcp_streams.specs.code.Table.{IsTurn}
use Rattle.tcp_streams.proofs.connection_stage.ConnectionStage.hand_on.Goals as goal

pub add-requires : goal.add-requires
add-requires g c =
    let (past, are, next) = c.requires.next in (
      segments_among past,
      are.table,
      omega (arith, length-map past (λ (one : Sent). one.0), next.few),
    )

pub begun-requires-clause-short : goal.begun-requires-clause-short
begun-requires-clause-short g c = let (past, are, next) = c.requires.next in omega (arith, next.room)

pub index_mut-requires : goal.index_mut-requires
index_mut-requires g c =
    let (past, are, next) = c.requires.next in
    let segments = segments_among past in
    let s = c.args.segment.now in
    let turn = subst (IsTurn segments s) c.in-Joins.is (c.in_ok-turn.ensures.turn segments are.table) in
    let before = within g.V.ConnectionVisitor.after past s c.args.payload.now c.args.self.now are c.in-Joins.k turn.1 in
    omega (arith, before, c.args.self.now.opened.ok.0)

pub take-requires-clause-next : goal.take-requires-clause-next
take-requires-clause-next g c =
    let (past, are, next) = c.requires.next in
    let segments = segments_among past in
    let s = c.args.segment.now in
    let turn = subst (IsTurn segments s) c.in-Joins.is (c.in_ok-turn.ensures.turn segments are.table) in
    let o = turn.1.last in
    let sent = sent_of o past in (
      o,
      sent,
      last_of 0 sent,
      kept-at g.V.ConnectionVisitor.after past s c.args.payload.now c.args.self.now are c.in-Joins.k turn.1
          c.index_mut.result.now c.index_mut.ensures.value,
      next-sent past s next c.requires.sent.numbered o,
    )

pub returns-in_ok-push-in-Opens : goal.returns-in_ok-push-in-Opens
returns-in_ok-push-in-Opens g c = λ past are next.
    let segments = segments_among past in
    let s = c.args.segment.now in
    let turn = subst (IsTurn segments s) c.in-Opens.is (c.in_ok-turn.ensures.turn segments are.table) in
    opens-now g.V.ConnectionVisitor.after past s c.args.payload.now c.args.self.now _ are next
    (c.in_ok-turn.ensures.table segments are.table) turn c.in_ok-visitor-in-Opens.visitor
    c.in_ok-visitor-in-Opens.ensures c.in_ok-push-in-Opens.ensures.items

pub returns-in-Joins : goal.returns-in-Joins
returns-in-Joins g c = λ past are next.
    let after = g.V.ConnectionVisitor.after in
    let segments = segments_among past in
    let s = c.args.segment.now in
    let k = c.in-Joins.k in
    let old = c.args.self.now in
    let turn = subst (IsTurn segments s) c.in-Joins.is (c.in_ok-turn.ensures.turn segments are.table) in
    let o = turn.1.last in
    let sent = sent_of o past in
    let before = kept-at after past s c.args.payload.now old are k turn.1 c.index_mut.result.now
    c.index_mut.ensures.value in
    on_ok_weaker c.take.result
    (λ taken. joins-now after past s c.args.payload.now old _ are next
    (c.in_ok-turn.ensures.table segments are.table) turn.0 k turn.1 c.take.new.self taken refl)
    (c.take.ensures o sent (last_of 0 sent) before (next-sent past s next c.requires.sent.numbered o))

pub returns-in-Counts : goal.returns-in-Counts
returns-in-Counts g c = λ past are next.
    let segments = segments_among past in
    let s = c.args.segment.now in
    let turn = subst (IsTurn segments s) c.in-Counts.is (c.in_ok-turn.ensures.turn segments are.table) in
    strays-now g.V.ConnectionVisitor.after past s c.args.payload.now c.args.self.now _ are next
    (c.in_ok-turn.ensures.table segments are.table) turn.0 (stray-is segments s c.in-Counts.field-0 turn.0 turn.1) refl

pub returns-in-Begins : goal.returns-in-Begins
returns-in-Begins g c = λ past are next.
    let segments = segments_among past in
    let s = c.args.segment.now in
    let turn = subst (IsTurn segments s) c.in-Begins.is (c.in_ok-turn.ensures.turn segments are.table) in
    strays-now g.V.ConnectionVisitor.after past s c.args.payload.now c.args.self.now _ are next
    (c.in_ok-turn.ensures.table segments are.table) turn.0 (unknown-is segments s turn.0 turn.1) refl
