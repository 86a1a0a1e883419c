use Rattle.tcp_streams.proofs.Steps.{shown-begins, shown-counts, shown-joins, shown-opens, counted-few}
use Rattle.tcp_streams.proofs.Words.{refl, pair_of}
use Rattle.tcp_streams.proofs.{Lists.on_ok_3, Steps.stands-unopened}
use Rattle.std.proofs.{Common.rules, Common.subst}
use Rattle.tcp_streams.specs.code.Table.{IsTurn}
use Rattle.tcp_streams.proofs.table.Table.take.Goals as goal

pub returns-in-Opens : goal.returns-in-Opens
returns-in-Opens c =
    let s = c.args.segment.now in
    on_ok_3 c.open.result c.open.ensures.openers c.open.ensures.strays c.open.ensures.standings
    (λ openers strays sets past shown.
    rw (openers, strays) (shown-opens past s _ _ _ shown _
    (subst (IsTurn past s) c.in-Opens.is (c.requires.turn past shown)) sets))

pub returns-in-Joins : goal.returns-in-Joins
returns-in-Joins c = λ past shown.
    let s = c.args.segment.now in
    let turn = subst (IsTurn past s) c.in-Joins.is (c.requires.turn past shown) in
    shown-joins past s _ _ _ shown _ turn.0 turn.1

pub overflow_add-index_mut : goal.overflow_add-index_mut
overflow_add-index_mut c =
    let (past, shown, room) = c.requires.past in
    let turn = subst (IsTurn past c.args.segment.now) c.in-Counts.is (c.requires.turn past shown) in
    let few = counted-few past c.args.self.now shown (pair_of c.args.segment.now) c.in-Counts.k turn.1
    c.index_mut.result.now c.index_mut.ensures.value in
    search rules

pub returns-in-Counts : goal.returns-in-Counts
returns-in-Counts c = λ past shown.
    let s = c.args.segment.now in
    let turn = subst (IsTurn past s) c.in-Counts.is (c.requires.turn past shown) in
    shown-counts past s _ _ _ shown c.in-Counts.k _ c.index_mut.result.now turn.0 turn.1
    (stands-unopened past c.args.self.now shown (pair_of s) c.in-Counts.k turn.1 c.index_mut.result.now
    c.index_mut.ensures.value)
    refl

pub returns-in-Begins : goal.returns-in-Begins
returns-in-Begins c =
    let s = c.args.segment.now in
    on_ok_3 c.begin.result c.begin.ensures.openers c.begin.ensures.strays c.begin.ensures.standings
    (λ openers strays sets past shown.
    let turn = subst (IsTurn past s) c.in-Begins.is (c.requires.turn past shown) in
    rw (openers, strays) (shown-begins past s _ _ _ shown _ turn.0 turn.1 sets))
