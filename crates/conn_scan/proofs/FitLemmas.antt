-- Where the items of all blocks fit, each block fits the connection before it.
use Rattle.conn_scan.proofs.Terms.{[], ◌∷◌, connection_after_all, first_fit, rest_fit}
use Rattle.conn_scan.specs.code.List.{items_in_blocks}
use Rattle.conn_scan.specs.laws.Blocks.{BlocksFit}

pub blocks_fit : BlocksFit
blocks_fit now [] fits little = tt
blocks_fit now (block ∷ blocks) fits little =
    let rest = rest_fit now block (items_in_blocks blocks) (fits, little) in (
      (first_fit now block (items_in_blocks blocks) (fits, little)).0,
      blocks_fit (connection_after_all now block) blocks rest.0 rest.1,
    )
