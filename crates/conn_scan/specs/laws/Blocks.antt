-- That each block of items fits the connection before it.
use Rattle.std.specs.Prelude.{List}
use Rattle.std.specs.List.{AllByRecursion, AllZip}
use Rattle.audit_terms.specs.declared.connection_state.ConnectionState.{ConnectionState}
use Rattle.audit_terms.specs.declared.items.Item.{Item}
use Rattle.conn_scan.specs.code.List.{items_in_blocks}
use Rattle.conn_scan.specs.code.Block.{BlockFits, MovesLittle, connections_before}

-- where the items of all blocks fit the first connection, each block fits the connection before it
abbrev pub BlocksFit : Type 0
BlocksFit = (now : ConnectionState) (blocks : List (List Item)) → BlockFits now (items_in_blocks blocks)
    → AllByRecursion MovesLittle (items_in_blocks blocks) → AllZip BlockFits (connections_before now blocks) blocks
