use Rattle.fault_rules.proofs.Terms.{sym, ◌∙◌}
use Rattle.fault_rules.proofs.ShareLemmas.{last_from-back}
use Rattle.fault_rules.proofs.previous.last_from.Goals as goal

pub returns-then-is_of : goal.returns-then-is_of
returns-then-is_of c =
    let back = last_from-back c.args.side c.args.before c.args.frames.now c.loop-back.back c.index-frames-frames.result
    c.loop-back-test.true in
    sym (c.loop-back.invariant ∙ rw (← c.index-frames-frames.is, sym c.is_of.ensures ∙ c.if-is_of.true) at back)

pub loop-back-preserved : goal.loop-back-preserved
loop-back-preserved c =
    let back = last_from-back c.args.side c.args.before c.args.frames.now c.loop-back.back c.index-frames-frames.result
    c.loop-back-test.true in
    c.loop-back.invariant ∙ rw (← c.index-frames-frames.is, sym c.is_of.ensures ∙ c.if-is_of.false) at back
