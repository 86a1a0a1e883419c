use Rattle.audit_rounds.proofs.Words.{◌≡◌, ◌+◌, ◌≤◌, ◌++◌, List, length, map, items_in_blocks, Block, items_in, IsBlock}
use Rattle.audit_rounds.proofs.Words.{AreShort, blocks_of_connection}
use Rattle.audit_rounds.proofs.connection_blocks.add_blocks.Given as goal

-- the items of the blocks that were added, and of the rest, are all
abbrev pub invariant-loop-first : goal.invariant-loop-first
invariant-loop-first l = record {
  is_block : IsBlock l.rest;
  short : AreShort l.fn.blocks.items → AreShort l.blocks.items;
  few : length l.blocks.items + length l.rest.frames.now ≤ length l.fn.blocks.items + length l.whole.frames.now;
  added : (cut : List Block) × (l.blocks.items ≡ l.fn.blocks.items ++ blocks_of_connection l.connection cut)
      × (items_in_blocks (map items_in cut) ++ items_in l.rest ≡ items_in l.whole);
}

abbrev pub decreases-loop-first : goal.decreases-loop-first
decreases-loop-first l = length l.rest.frames.now
