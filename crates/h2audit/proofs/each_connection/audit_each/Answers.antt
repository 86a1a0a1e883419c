use Rattle.std.proofs.Common.{Bor, List, map, sym, ap, ◌∙◌, subst, All}
use Rattle.std.proofs.lemmas.Result.{IfOk-weaker}
use Rattle.std.proofs.lemmas.Simd.{map-map}
use Rattle.audit_terms.specs.declared.frames.Frame.{Frame}
use Rattle.audit_terms.specs.code.runs.Orderly.{IsOrderly}
use Rattle.audit_terms.specs.Finding.{shown}
use Rattle.audit_terms.specs.Pass.{pass}
use Rattle.h2audit.specs.code.KeptFrames.{kept_frames}
use Rattle.h2audit.proofs.Flows.{All-lent, kept-orderly}
use Rattle.h2audit.proofs.each_connection.audit_each.Goals as goal

pub findings_of_each-requires-after_bounds : goal.findings_of_each-requires-after_bounds
findings_of_each-requires-after_bounds g c κs within =
    let kept = c.in_ok-kept.ensures ∙ ap kept_frames c.as_slice.ensures.value in
    subst (λ (lent : List (Bor (List Frame))). All (λ frames. IsOrderly frames.now) lent)
    (sym c.as_slice-2.ensures.value)
    (All-lent c.in_ok-kept.kept.items
    (subst (All IsOrderly) (sym kept) (kept-orderly c.args.told.items c.requires)))

pub returns : goal.returns
returns g c =
    let credits = c.args.division.now.frames_shown in
    let kept = c.in_ok-kept.ensures ∙ ap kept_frames c.as_slice.ensures.value in
    let are = c.in_ok-found.ensures
    ∙ ap (map (λ (frames : Bor (List Frame)). shown credits (pass frames.now))) c.as_slice-2.ensures.value
    ∙ sym (map-map (λ frames. shown credits (pass frames)) (λ (frames : Bor (List Frame)). frames.now)
    c.in_ok-kept.kept.items)
    ∙ ap (map (λ frames. shown credits (pass frames))) kept in
    IfOk-weaker c.all_with_findings.result _ _
    (λ told put. record { found = c.in_ok-found.found.items; are = are; put = put })
    c.all_with_findings.ensures
