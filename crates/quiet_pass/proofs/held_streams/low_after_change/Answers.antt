use Rattle.std.proofs.Common.{SFits, rules, w64}
use Rattle.std.proofs.lemmas.Int.{to_z-of_z}
use Rattle.stream_credit.proofs.Words.{◌∙◌, Some, false, subst, sym}
use Rattle.quiet_pass.proofs.HeldLemmas.{low-moved}
use Rattle.quiet_pass.specs.code.HeldStreams.{IsCreditMoved, IsLowStanding}
use Rattle.quiet_pass.proofs.held_streams.low_after_change.Goals as goal

pub returns : goal.returns
returns c = λ next e.
    let credit = c.in-Some.credit in
    let moved = c.in_ok-moved.moved in
    let fits : SFits w64 c.in-Some.credit = search rules in
    let moved-fits : SFits w64 c.in_ok-moved.moved = search rules in
    low-moved c.args.before c.args.after c.args.standing next credit moved
    (sym c.low_window.ensures.same ∙ c.in-Some.is)
    (subst (λ credit. IsCreditMoved c.args.before c.args.after credit moved) (to_z-of_z w64 credit fits)
    (c.moved_credit.ensures moved c.in_ok-moved.was))
    (subst (λ credit. IsLowStanding (Some credit) false next) (to_z-of_z w64 moved moved-fits)
    (c.low_standing.ensures next e))
