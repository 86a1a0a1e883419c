use Rattle.std.proofs.Common.{Bool, List, subst, sym, ◌∙◌, ◌∷◌}
use Rattle.std.specs.Vec.Iter.{into_iter_items}
use Rattle.h2audit.proofs.Zips.{taken-all, taken-more, zip-more}
use Rattle.h2audit.specs.code.Flows.{AreMadeOf, AreToldHeld, IsToldHeld}
use Rattle.h2audit.specs.declared.listed_connections.HeldFlows.{HeldFlows}
use Rattle.h2audit.proofs.each_connection.all_with_outcomes.Goals as goal

pub with_outcome-requires : goal.with_outcome-requires
with_outcome-requires c =
    let at = c.loop-one in
    let (credits, are) = c.requires in
    let one = c.in-Some.one in
    let behind = into_iter_items c.next.new.self in
    let left : AreMadeOf credits (one ∷ behind) (into_iter_items at.rest) =
    subst (λ (held : List HeldFlows). AreMadeOf credits held (into_iter_items at.rest)) c.in-Some.ensures.steps.0
    (at.invariant.left credits are) in
    (credits, (c.next_made-made.ensures credits one behind left).0)

pub loop-one-preserved : goal.loop-one-preserved
loop-one-preserved c =
    let at = c.loop-one in
    let one = c.in-Some.one in
    let behind = into_iter_items c.next.new.self in
    let left : (credits : Bool) → AreMadeOf credits c.args.held.items c.args.parts.items
    → AreMadeOf credits (one ∷ behind) (into_iter_items at.rest) = λ credits are.
    subst (λ (held : List HeldFlows). AreMadeOf credits held (into_iter_items at.rest)) c.in-Some.ensures.steps.0
    (at.invariant.left credits are) in
    record {
      whole = taken-more at.yielded one behind _ _ c.in-Some.ensures.steps.0 at.invariant.whole;
      left = λ credits are. (c.next_made-made.ensures credits one behind (left credits are)).1;
      told = λ credits are. rw c.in_ok-push.ensures.items (zip-more (IsToldHeld credits) at.yielded at.all.items one
          c.in_ok-with_outcome.field-0 (at.invariant.told credits are)
          (c.in_ok-with_outcome.ensures credits (c.next_made-made.ensures credits one behind (left credits are)).0));
    }

pub returns : goal.returns
returns c = λ credits are.
    let at = c.loop-one in
    let whole = taken-all at.yielded (into_iter_items at.one-iterator) c.args.held.items
    (sym at.one-iterator.rest.ok.0 ∙ c.in-None.ensures.steps.0) at.invariant.whole in
    subst (λ (held : List HeldFlows). AreToldHeld credits held at.all.items) whole (at.invariant.told credits are)
