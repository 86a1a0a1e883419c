use Rattle.stream_credit.proofs.Words.{◌<◌, sym, ◌∙◌, ap, subst, arith, same_Some, without_window}
use Rattle.stream_credit.specs.code.Standings.{IsStandingAfter}
use Rattle.stream_credit.proofs.StandingLemmas.{standing_goes_on, standing_ends}
use Rattle.stream_credit.proofs.stream_standings.live_after.Goals as goal

pub returns-then-ends_window : goal.returns-then-ends_window
returns-then-ends_window c = λ x e.
    let is = sym (same_Some _ _ e) ∙ c.without_window.ensures ∙ ap without_window c.is_last_of.ensures in
    let after = rw (c.grant_to-granted.ensures, c.content_by.ensures) at (c.balance.ensures _ c.in_ok-after.was) in
    rw is (standing_ends c.args.side c.args.frame.now c.args.credit c.in_ok-after.after c.requires after
    (sym c.ends_window.ensures ∙ c.if-ends_window.true))

pub returns : goal.returns
returns c = λ x e.
    let some : 0 < c.in_ok-after.after = omega (arith, c.if-after-eq0.false) in
    let after = rw (c.grant_to-granted.ensures, c.content_by.ensures) at (c.balance.ensures _ c.in_ok-after.was) in
    subst (IsStandingAfter c.args.side c.args.frame.now c.args.credit) (same_Some _ _ e)
    (standing_goes_on c.args.side c.args.frame.now c.args.credit c.in_ok-after.after c.requires after
    (sym c.ends_window.ensures ∙ c.if-ends_window.false) some)
