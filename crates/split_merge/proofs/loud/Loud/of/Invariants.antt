use Rattle.split_merge.proofs.Terms.{◌≡◌, ◌++◌, drop, loud_of, opened_in}
use Rattle.split_merge.proofs.loud.Loud.of.Given as goal

abbrev pub invariant-loop-row : goal.invariant-loop-row
invariant-loop-row l = record {
  rows : l.loud.rows.items ++ loud_of (drop l.row l.table.rows.items) (drop l.row l.table.quiets.items)
      ≡ loud_of l.table.rows.items l.table.quiets.items;
  opened : l.loud.opened.items ++ opened_in (drop l.row l.table.quiets.items) ≡ opened_in l.table.quiets.items;
}
