use Rattle.stream_credit.proofs.Words.{sym, ◌∙◌, subst, same_Some, IsOpenedBy}
use Rattle.stream_credit.proofs.StandingLemmas.{idle-opened}
use Rattle.stream_credit.proofs.stream_standings.Standings.opened.Goals as goal

pub returns : goal.returns
returns c = λ x e.
    let life = c.idle-idle.ensures in
    subst (IsOpenedBy c.args.stream c.args.initial.now c.args.frame.now) (same_Some _ _ e)
    (idle-opened c.args.stream c.args.initial.now c.args.frame.now
    (rw life at (sym c.is_opening.ensures ∙ c.if-not-is_opening.false)) _ _ c.if-frame-eq0.false
    (rw life at (sym c.is_not_opened.ensures ∙ c.if-is_not_opened.false))
    (rw c.is_last_of-client_ends.ensures at (c.opening_standing.ensures _ c.in_ok-opening_standing.was))
    (rw c.is_last_of-server_ends.ensures at (c.opening_standing-2.ensures _ c.in_ok-opening_standing-2.was)))
