use Rattle.conn_scan.proofs.Terms.{◌≡◌, length, numbers_not_below}
use Rattle.conn_scan.proofs.block_items.numbers_not_below.Given as goal

abbrev pub invariant-loop-first : goal.invariant-loop-first
invariant-loop-first l = numbers_not_below l.low l.rest ≡ numbers_not_below l.low l.numbers

abbrev pub decreases-loop-first : goal.decreases-loop-first
decreases-loop-first l = length l.rest
