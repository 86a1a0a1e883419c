use Rattle.stream_credit.proofs.Words.{Finding, List, ap, arith, shown, sym, ◌++◌}
use Rattle.stream_credit.proofs.Words.{slice_get-get_or, ◌<◌}
use Rattle.quiet_pass.proofs.ShiftedLemmas.{said-row, skipped}
use Rattle.quiet_pass.proofs.shifted_rows.say_from.Goals as goal

pub returns-then-quiet-gt0-clause-past : goal.returns-then-quiet-gt0-clause-past
returns-then-quiet-gt0-clause-past c =
    (c.end_of.ensures.each c.args.at (omega (arith, c.if-quiet-gt0.true)) c.requires.inside, c.end_of.ensures.within)

pub returns-then-quiet-gt0-clause-said : goal.returns-then-quiet-gt0-clause-said
returns-then-quiet-gt0-clause-said c quiet =
    let end = c.end_of.result in
    let past : c.args.at < end =
    c.end_of.ensures.each c.args.at (omega (arith, c.if-quiet-gt0.true)) c.requires.inside in
    let moving = c.args.moving.now in
    let given = c.requires.moving in
    ap (λ (l : List Finding). shown moving.frames_shown c.args.found.now.items ++ l)
    (sym (skipped moving.frames_shown moving.before.now moving.step.now given.alone moving.shift moving.next
    given.moved c.args.rows.now c.args.at end c.args.quiet (omega (arith, past)) c.end_of.ensures.short quiet))

pub returns-clause-said : goal.returns-clause-said
returns-clause-said c quiet =
    let rows = c.args.rows.now in
    let moving = c.args.moving.now in
    let given = c.requires.moving in
    said-row moving.frames_shown moving.before.now moving.step.now given.alone moving.shift moving.next given.moved rows
    c.args.at _ c.args.found.now.items c.say_shifted.new.found.items
    (slice_get-get_or rows c.args.at _ c.requires.inside) c.in_ok-say_shifted.ensures

pub say_shifted-requires-clause-small : goal.say_shifted-requires-clause-small
say_shifted-requires-clause-small c =
    let rows = c.args.rows.now in
    (c.requires.own.1 c.args.at _ (slice_get-get_or rows c.args.at _ c.requires.inside)).small
