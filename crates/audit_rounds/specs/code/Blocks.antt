-- The blocks of connections' frames, and what is known of each.
use Rattle.std.specs.Prelude.{◌≡◌, ℕ, ◌+◌, ◌<◌, ◌≤◌, ◌^◌, All, List, [], ◌∷◌, ◌++◌, length, map, slice_index_or}
use Rattle.std.specs.Prelude.{◌==◌, if◌then◌else◌}
use Rattle.std.specs.List.{AllByRecursion}
use Rattle.audit_terms.specs.declared.connection_state.ConnectionState.{ConnectionState}
use Rattle.audit_terms.specs.declared.items.Item.{Item}
use Rattle.audit_terms.specs.Connection.{connection_start}
use Rattle.audit_terms.specs.code.runs.Blocks.{connection_after_all}
use Rattle.conn_scan.specs.code.List.{items_in_blocks}
use Rattle.conn_scan.specs.declared.block_items.Block.{Block}
use Rattle.conn_scan.specs.code.Items.{items_in, IsBlock}
use Rattle.conn_scan.specs.code.Block.{MovesLittle, BlockFits}
use Rattle.conn_scan.specs.declared.sums.ConnSum.{ConnSum}
use Rattle.conn_scan.specs.code.ConnSum.{conn_sum_of}
use Rattle.audit_rounds.specs.declared.connection_blocks.ConnectionBlock.{ConnectionBlock}

-- a block that may be summed
pub record IsShort (block : Block) : Type 0 where
  pub is_block : IsBlock block
  pub number : length block.frames.now ≤ 2 ^ 28

-- all blocks may be summed
abbrev pub AreShort : List ConnectionBlock → Type 0
AreShort blocks = All (λ (one : ConnectionBlock). IsShort one.block) blocks

-- a connection from which a block may be audited
pub record IsReady (before : ConnectionState) (block : Block) : Type 0 where
  pub is_block : IsBlock block
  pub fits : BlockFits before (items_in block)

-- the summary of a block, whose items move credits by little
pub record IsSum (block : Block) (sum : ConnSum) : Type 0 where
  pub is : sum ≡ conn_sum_of (items_in block)
  pub little : AllByRecursion MovesLittle (items_in block)

-- the summary of each block
pub record AreSums (blocks : List ConnectionBlock) (sums : List ConnSum) : Type 0 where
  pub number : length sums ≡ length blocks
  pub each : (n : ℕ) (one : ConnectionBlock) (sum : ConnSum) → n < length blocks
      → IsSum (slice_index_or blocks n one).block (slice_index_or sums n sum)

-- blocks as those of a connection
abbrev pub blocks_of_connection : (connection : ℕ) → List Block → List ConnectionBlock
blocks_of_connection connection blocks =
    map (λ (block : Block). record { connection = connection; block = block }) blocks

-- the blocks of consecutive connections, the first of this number, one connection's after the other's
abbrev pub laid_out : (connection : ℕ) → List (List Block) → List ConnectionBlock
laid_out connection [] = []
laid_out connection (blocks ∷ later) = blocks_of_connection connection blocks ++ laid_out (connection + 1) later

-- the items of connections, the first of number 0, in blocks
pub record AreBlocksOf (wholes : List (List Item)) (blocks : List ConnectionBlock) : Type 0 where
  pub cuts : List (List Block)
  pub laid : blocks ≡ laid_out 0 cuts
  pub items : wholes ≡ map (λ (blocks : List Block). items_in_blocks (map items_in blocks)) cuts

-- the connection before a block, where the last block, one of connection `last`, left it so
abbrev pub before_of : (last : ℕ) → ConnectionState → ConnectionBlock → ConnectionState
before_of last now one = if one.connection == last then now else connection_start

-- the connection after it
abbrev pub after_of : (last : ℕ) → ConnectionState → ConnectionBlock → ConnectionState
after_of last now one = connection_after_all (before_of last now one) (items_in one.block)

-- each block fits the connection before it
abbrev pub AreFit : (last : ℕ) → ConnectionState → List ConnectionBlock → Type 0
AreFit last now [] = Unit {0}
AreFit last now (one ∷ rest) =
    BlockFits (before_of last now one) (items_in one.block) × AreFit one.connection (after_of last now one) rest

-- the blocks of one connection more
pub record AddsBlocks (connection : ℕ) (whole : Block) (old new : List ConnectionBlock) : Type 0 where
  pub cut : List Block
  pub added : new ≡ old ++ blocks_of_connection connection cut
  pub items : items_in_blocks (map items_in cut) ≡ items_in whole
  pub short : AreShort old → AreShort new
  pub few : length new ≤ length old + length whole.frames.now
