use Rattle.split_merge.proofs.Terms.{◌≡◌, ◌+◌, ◌++◌, drop, laid_out, total_of}
use Rattle.split_merge.proofs.splits.lay_out.Given as goal

abbrev pub invariant-loop-row : goal.invariant-loop-row
invariant-loop-row l = record {
  rows : l.rows.items ++ laid_out l.total (drop l.row-index l.loud) ≡ laid_out 0 l.loud;
  total : l.total + total_of (drop l.row-index l.loud) ≡ total_of l.loud;
}
