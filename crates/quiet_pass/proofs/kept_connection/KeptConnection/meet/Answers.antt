use Rattle.stream_credit.proofs.Words.{◌≡◌, ℕ, nat_lt, false, ap, refl, subst, ◌∙◌, arith, nat_tests, Sides, new_limit}
use Rattle.quiet_pass.proofs.ConnectionLemmas.{connection-met}
use Rattle.quiet_pass.proofs.kept_connection.KeptConnection.meet.Goals as goal

pub returns-clause-quiet : goal.returns-clause-quiet
returns-clause-quiet c =
    let frame = c.args.frame.now in
    let old = c.args.self.now in
    let change = c.args.change.now in
    let longest = c.new_limit-longest.ensures ∙ ap (new_limit change frame.side) c.of.ensures in
    let short : nat_lt c.new_limit-longest.result frame.length ≡ false =
    grind (arith, nat_tests, c.if-longest-get.false, c.get.ensures) in
    let here = c.in-Some-Some in
    connection-met frame false change old old.state.opened here.promised c.new_push.result here.credit
    c.limit_after.result (subst (λ n. nat_lt n frame.length ≡ false) longest short)
    (record { opened = λ _. refl; said = λ _. refl }) (c.promised_after.ensures here.promised here.is-0)
    (c.credits_after.ensures here.credit here.is-1) c.new_push.ensures
    (ap (λ (both : Sides ℕ). both.client) c.limit_after.ensures)
    (ap (λ (both : Sides ℕ). both.server) c.limit_after.ensures)
