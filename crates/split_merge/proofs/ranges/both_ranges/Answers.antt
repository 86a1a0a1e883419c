use Rattle.std.proofs.lemmas.Result.{IfOk-weaker}
use Rattle.split_merge.specs.code.Findings.{findings_in}
use Rattle.split_merge.proofs.Merged.{merged-in_turn}
use Rattle.split_merge.proofs.Terms.{◌∙◌}
use Rattle.split_merge.proofs.ranges.both_ranges.Goals as goal

pub returns : goal.returns
returns c =
    IfOk-weaker c.behind-2.result _ _ (λ all is.
    rw c.stops.ensures at is
    ∙ merged-in_turn (findings_in c.args.one) (findings_in c.args.other) c.in-Some.last c.requires.one
    c.requires.other (c.last_in_turn.ensures c.in-Some.last c.in-Some.is)) c.behind-2.ensures
