use Rattle.std.proofs.lemmas.Result.{IfOk-at_ok, IfOk-weaker}
use Rattle.split_merge.specs.code.Findings.{findings_in}
use Rattle.split_merge.specs.code.Ranges.{all_in}
use Rattle.split_merge.proofs.Merged.{are-merged, merged, merged-both}
use Rattle.split_merge.proofs.Terms.{ap, in_order, upto_stop, ◌++◌, ◌∙◌, ◌≡◌}
use Rattle.split_merge.proofs.ranges.+fn-in_ranges-join+arg3+in_ranges.Goals as goal

pub both_ranges-requires-clause-one : goal.both_ranges-requires-clause-one
both_ranges-requires-clause-one g t c =
    let fronts = c.as_slice-fronts.result.now in
    are-merged (all_in fronts) (findings_in c.in_ok-one.field-0)
    (IfOk-at_ok (λ all. findings_in all ≡ merged (all_in fronts)) c.in_ok-one.was c.join-one.ensures.first)

pub both_ranges-requires-clause-other : goal.both_ranges-requires-clause-other
both_ranges-requires-clause-other g t c =
    let backs = c.as_slice-backs.result.now in
    are-merged (all_in backs) (findings_in c.in_ok-other.field-0)
    (IfOk-at_ok (λ all. findings_in all ≡ merged (all_in backs)) c.in_ok-other.was c.join-one.ensures.second)

pub returns : goal.returns
returns g t c =
    let fronts = all_in c.as_slice-fronts.result.now in
    let backs = all_in c.as_slice-backs.result.now in
    let one = IfOk-at_ok (λ all. findings_in all ≡ merged fronts) c.in_ok-one.was c.join-one.ensures.first in
    let other = IfOk-at_ok (λ all. findings_in all ≡ merged backs) c.in_ok-other.was c.join-one.ensures.second in
    let parts : in_order (fronts ++ backs) ≡ in_order (all_in c.args.slices.now) =
    rw (c.as_slice-fronts.ensures.value, c.as_slice-backs.ensures.value) c.in_ok-fronts.ensures in
    IfOk-weaker c.both_ranges.result _ _ (λ all is.
    is
    ∙ merged-both fronts backs (findings_in c.in_ok-one.field-0) (findings_in c.in_ok-other.field-0) one other
    ∙ ap upto_stop parts) c.both_ranges.ensures
