use Rattle.stream_credit.proofs.Words.{sym, ◌∙◌, subst, same_Some, IsNextOpened}
use Rattle.stream_credit.proofs.StandingLemmas.{opened-next-by}
use Rattle.stream_credit.proofs.stream_standings.Standings.after.Goals as goal

pub returns : goal.returns
returns c = λ x e.
    let life = c.life-life.ensures in
    subst (IsNextOpened c.args.frame.now c.args.self.now) (sym c.sided.ensures ∙ same_Some _ _ e)
    (opened-next-by c.args.frame.now.side c.args.frame.now c.args.self.now _ _ c.if-self-eq0.false
    (rw life at (sym c.is_not_opened.ensures ∙ c.if-is_not_opened.false))
    (rw life at (sym c.is_after_end.ensures ∙ c.if-is_after_end.false))
    (sym c.is_zero_grant.ensures ∙ c.if-is_zero_grant.false)
    (rw c.of_side.ensures at (c.standing_after.ensures _ c.in_ok-sent.was))
    (rw (c.of_side-2.ensures, c.other.ensures, c.other-2.ensures) at (c.standing_after-2.ensures _ c.in_ok-heard.was)))
