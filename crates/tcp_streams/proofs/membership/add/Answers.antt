use Rattle.std.proofs.Common.{subst}
use Rattle.std.proofs.lemmas.Result.{on_ok_weaker}
use Rattle.tcp_streams.proofs.Joins.{connections-join, connections-open, connections-stay, connections-within}
use Rattle.tcp_streams.proofs.Opened.{stray-is, unknown-is}
use Rattle.tcp_streams.proofs.Words.{Connection, List, arith, sym, ◌∷◌}
use Rattle.tcp_streams.specs.code.Table.{AreConnectionsOf, IsTurn}
use Rattle.tcp_streams.proofs.membership.add.Goals as goal

pub add-requires : goal.add-requires
add-requires c = let (past, shown, are, room) = c.requires in (past, shown, room)

pub index_mut-requires : goal.index_mut-requires
index_mut-requires c =
    let (past, shown, are, room) = c.requires in
    let turn = subst (IsTurn past c.args.segment.now) c.in-Joins.is (c.in_ok-turn.ensures.turn past shown) in
    let before = connections-within past c.args.opened.now.items c.in-Joins.k turn.1.last are turn.1.at in
    omega (arith, before, c.args.opened.now.ok.0)

pub returns-in_ok-push-in-Opens : goal.returns-in_ok-push-in-Opens
returns-in_ok-push-in-Opens c = λ past shown are falls.
    let s = c.args.segment.now in
    let turn = subst (IsTurn past s) c.in-Opens.is (c.in_ok-turn.ensures.turn past shown) in (
      c.in_ok-turn.ensures.table past shown,
      subst (λ (found : List Connection). AreConnectionsOf (s ∷ past) found) (sym c.in_ok-push-in-Opens.ensures.items)
          (connections-open past s c.args.opened.now.items are falls c.in_ok-connection-in-Opens.connection turn
          c.in_ok-connection-in-Opens.ensures),
    )

pub returns-in-Joins : goal.returns-in-Joins
returns-in-Joins c = λ past shown are falls.
    let s = c.args.segment.now in
    let k = c.in-Joins.k in
    let turn = subst (IsTurn past s) c.in-Joins.is (c.in_ok-turn.ensures.turn past shown) in
    on_ok_weaker c.join.result
    (λ same. (
      c.in_ok-turn.ensures.table past shown,
      connections-join past s c.args.opened.now.items are falls k c.index_mut.result.now c.join.new.self turn.0 turn.1
          c.index_mut.ensures.value same,
    ))
    c.join.ensures

pub returns-in-Counts : goal.returns-in-Counts
returns-in-Counts c = λ past shown are falls.
    let s = c.args.segment.now in
    let turn = subst (IsTurn past s) c.in-Counts.is (c.in_ok-turn.ensures.turn past shown) in (
      c.in_ok-turn.ensures.table past shown,
      connections-stay past s c.args.opened.now.items are turn.0
          (stray-is past s c.in-Counts.field-0 turn.0 turn.1),
    )

pub returns-in-Begins : goal.returns-in-Begins
returns-in-Begins c = λ past shown are falls.
    let s = c.args.segment.now in
    let turn = subst (IsTurn past s) c.in-Begins.is (c.in_ok-turn.ensures.turn past shown) in (
      c.in_ok-turn.ensures.table past shown,
      connections-stay past s c.args.opened.now.items are turn.0 (unknown-is past s turn.0 turn.1),
    )
