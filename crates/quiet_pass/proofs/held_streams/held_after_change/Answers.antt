use Rattle.stream_credit.proofs.Words.{◌∙◌, same_Some, subst, sym}
use Rattle.stream_credit.specs.declared.stream_standings.Standings.{Standings}
use Rattle.quiet_pass.proofs.HeldLemmas.{both-moved, full-moved}
use Rattle.quiet_pass.specs.code.HeldStreams.{held, IsEntryMoved}
use Rattle.quiet_pass.proofs.held_streams.held_after_change.Goals as goal

pub returns-then-not-is_low : goal.returns-then-not-is_low
returns-then-not-is_low c = λ next e.
    full-moved c.args.before.now c.args.after.now c.args.standings.now next
    (sym c.is_low.ensures ∙ c.if-not-is_low.true) (c.after_change.ensures next e)

pub returns : goal.returns
returns c = λ next e.
    let old = c.args.standings.now in
    subst (λ (next : Standings). IsEntryMoved c.args.before.now c.args.after.now (held old) (held next))
    (same_Some _ _ e)
    (both-moved c.args.before.now c.args.after.now old _ _ (sym c.is_low.ensures ∙ c.if-not-is_low.false)
    (c.low_after_change.ensures _ c.in_ok-low_after_change.was)
    (c.low_after_change-2.ensures _ c.in_ok-low_after_change-2.was))
