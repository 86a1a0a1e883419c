use Rattle.std.proofs.Common.{SFits, rules, w64}
use Rattle.std.proofs.lemmas.Int.{to_z-of_z}
use Rattle.audit_terms.specs.code.Sides.{with_side}
use Rattle.stream_credit.proofs.Words.{ℤ, ◌∙◌, ap, same_Some, subst, sym}
use Rattle.quiet_pass.specs.code.Connection.{AreCreditsAfter, IsCreditAfter}
use Rattle.quiet_pass.proofs.ConnectionLemmas.{credits-moved}
use Rattle.quiet_pass.proofs.kept_connection.KeptConnection.credits_after.Goals as goal

pub returns : goal.returns
returns c = λ x e.
    let frame = c.args.frame.now in
    let before = c.args.self.now.state.credit in
    let side = c.in-Some.side in
    let credit = c.in_ok-moved.moved in
    let read : SFits w64 c.of.result = record { sfits = c.of.type_inv } in
    let fits : SFits w64 c.in_ok-moved.moved = search rules in
    let same = ap (λ (moved : ℤ). with_side side moved before) (sym (to_z-of_z w64 credit fits)) ∙ same_Some _ _ e in
    subst (AreCreditsAfter frame before) same
    (credits-moved side frame before credit c.in-Some.ensures.client c.in-Some.ensures.server
    (subst (λ one. IsCreditAfter side frame one credit) (to_z-of_z w64 c.of.result read ∙ c.of.ensures)
    (c.credit_after.ensures credit c.in_ok-moved.was)))
