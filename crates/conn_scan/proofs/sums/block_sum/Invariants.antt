use Rattle.conn_scan.proofs.Terms.{◌≡◌, ◌++◌, ℕ, List, length, AllByRecursion, Item, IsOrderlyFrom, MovesLittle, walked}
use Rattle.conn_scan.proofs.Terms.{StartFrom, ChangesStartFrom, conn_sum_of}
use Rattle.conn_scan.proofs.sums.block_sum.Given as goal

-- the sum is that of the items so far
abbrev pub invariant-loop-frame : goal.invariant-loop-frame
invariant-loop-frame l =
    record {
      low : ℕ;
      orderly : IsOrderlyFrom low l.frames;
      opened : StartFrom l.due l.opened;
      changes : ChangesStartFrom l.due l.changes;
      done : List Item;
      split : done ++ walked l.opened l.changes l.frames
          ≡ walked l.block.opened.now l.block.changes.now l.block.frames.now;
      sum : l.sum ≡ conn_sum_of done;
      little : AllByRecursion MovesLittle done;
    }

abbrev pub decreases-loop-frame : goal.decreases-loop-frame
decreases-loop-frame l = length l.frames
