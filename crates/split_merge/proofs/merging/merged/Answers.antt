use Rattle.std.proofs.lemmas.Result.{IfOk-weaker}
use Rattle.split_merge.proofs.MergedRuns.{merge-parts}
use Rattle.split_merge.proofs.Terms.{◌∙◌}
use Rattle.split_merge.proofs.merging.merged.Goals as goal

pub returns : goal.returns
returns c =
    let halves = merge-parts c.args.lists.items _ _ _ c.in_ok-in_one_run.field-0.items c.in_ok-others.others.items
    c.in_ok-split_off.ensures.items c.in_ok-split_off.ensures.tail c.in_ok-in_one_run.ensures c.in_ok-others.ensures in
    IfOk-weaker c.merged_runs.result _ _ (λ all is. is ∙ halves) c.merged_runs.ensures
