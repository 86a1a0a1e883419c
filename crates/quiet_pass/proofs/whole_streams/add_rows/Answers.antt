use Rattle.stream_credit.proofs.Words.{List, ap, append-nil, arith, drop_all, sym, ◌++◌, ◌∙◌, ◌≤◌, length, map}
use Rattle.quiet_pass.proofs.WholeLemmas.{push-more}
use Rattle.quiet_pass.specs.code.WholeStreams.{whole_of}
use Rattle.quiet_pass.specs.declared.opened_rows.Row.{Row}
use Rattle.quiet_pass.proofs.whole_streams.add_rows.Goals as goal

pub loop-at-preserved : goal.loop-at-preserved
loop-at-preserved c =
    push-more c.loop-at.list.items c.whole_at.result _ _ _ _ c.whole_at.ensures c.in_ok-push.ensures.items
    c.loop-at.invariant

pub returns : goal.returns
returns c =
    let rows = c.args.rows.now in
    let done : length rows ≤ c.loop-at.at = omega (arith, c.loop-at-test.false) in
    sym (append-nil c.loop-at.list.items)
    ∙ ap (λ (rest : List Row). c.loop-at.list.items ++ map (whole_of c.args.shift.now) rest)
    (sym (drop_all c.loop-at.at rows done)) ∙ c.loop-at.invariant
