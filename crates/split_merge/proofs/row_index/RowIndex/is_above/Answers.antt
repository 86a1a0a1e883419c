use Rattle.split_merge.proofs.{Rising.all-below, Terms.OnTrue_from, Terms.sym}
use Rattle.std.proofs.lemmas.Bool.{OnTrue_at}
use Rattle.split_merge.proofs.row_index.RowIndex.is_above.Goals as goal

pub returns-in-Some-clause-above : goal.returns-in-Some-clause-above
returns-in-Some-clause-above c = OnTrue_from _ _ (λ below.
    all-below c.args.rows.now c.args.self.now c.args.stream c.in-Some.last.now c.requires c.if-self-rows.false
    (sym c.in-Some.ensures.value) (OnTrue_at below c.is_below.ensures))
