use Rattle.conn_scan.proofs.Terms.{◌≡◌, length, changes_not_below}
use Rattle.conn_scan.proofs.block_items.changes_not_below.Given as goal

abbrev pub invariant-loop-first : goal.invariant-loop-first
invariant-loop-first l = changes_not_below l.low l.rest ≡ changes_not_below l.low l.changes

abbrev pub decreases-loop-first : goal.decreases-loop-first
decreases-loop-first l = length l.rest
