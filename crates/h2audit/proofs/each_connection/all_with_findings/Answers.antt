use Rattle.std.proofs.Common.{All, ◌++◌, ◌∷◌, ◌≡◌, ◌∙◌, [], ap, append-nil, append_assoc, arith, refl, rules, subst}
use Rattle.std.proofs.Common.{sym}
use Rattle.std.proofs.lemmas.List.Elements.{All-tail}
use Rattle.std.specs.Vec.Iter.{into_iter_items}
use Rattle.h2audit.specs.code.KeptFrames.{AreToldWith}
use Rattle.report_pages.specs.code.Told.{HasOrderlyOutcome}
use Rattle.report_pages.specs.declared.told.Told.{Told}
use Rattle.h2audit.proofs.ToldAudits.{nothing, with-more}
use Rattle.h2audit.proofs.each_connection.all_with_findings.Goals as goal

pub loop-one-preserved : goal.loop-one-preserved
loop-one-preserved c =
    let so_far = c.loop-one.invariant in
    let one = c.in_ok-with_next_findings.field-0 in
    let before = into_iter_items c.loop-one.one-iterator in
    let made = c.in-Some.one in
    let behind = into_iter_items c.next.new.self in
    let next : before ≡ made ∷ behind = search rules in
    let orderly = λ (one : Told). HasOrderlyOutcome one.outcome in
    let found = into_iter_items c.loop-one.rest in
    record {
      orderly = All-tail orderly made behind (subst (All orderly) next so_far.orderly);
      put = λ rest told.
          let with_them : AreToldWith before found (one ∷ rest) =
          subst (λ left. AreToldWith left found (one ∷ rest)) (sym next)
          (with-more made behind found one rest (c.in_ok-with_next_findings.ensures).with
          (subst (λ left. AreToldWith behind left rest) c.with_next_findings.ensures.left told)) in
          subst (AreToldWith c.args.told.items c.args.found.items)
          (sym (ap (λ l. l ++ rest) (c.in_ok-push.ensures).items ∙ append_assoc c.loop-one.all.items (one ∷ []) rest))
          (so_far.put (one ∷ rest) with_them);
    }

pub returns : goal.returns
returns c =
    let left = c.loop-one.one-iterator.rest in
    let none : left.items ≡ [] = nothing left.items (omega (arith, left.ok.0, c.in-None.ensures.steps.0)) in
    subst (AreToldWith c.args.told.items c.args.found.items) (append-nil c.loop-one.all.items)
    (c.loop-one.invariant.put []
    (subst (λ made. AreToldWith made (into_iter_items c.loop-one.rest) []) (sym none) refl))
