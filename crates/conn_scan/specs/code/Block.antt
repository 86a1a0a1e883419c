-- The conditions under which a block of items is summed and audited.
use Rattle.std.specs.Prelude.{◌-◌, ◌*◌, ◌^◌, ◌≤◌, List, [], ◌∷◌, length}
use Rattle.audit_terms.specs.declared.sides.Side.TheVariants.{Client, Server}
use Rattle.audit_terms.specs.declared.connection_state.ConnectionState.{ConnectionState}
use Rattle.audit_terms.specs.declared.items.Item.{Item}
use Rattle.audit_terms.specs.code.runs.Blocks.{connection_after_all}
use Rattle.audit_terms.specs.code.Room.{HasRoom}
use Rattle.std.specs.List.{AllByRecursion}
use Rattle.conn_scan.specs.code.Credit.{credit_change}

-- the item moves each side's credit by at most 2^32
abbrev pub MovesLittle : Item → Type 0
MovesLittle item = HasRoom (2 ^ 32) (credit_change Client item) × HasRoom (2 ^ 32) (credit_change Server item)

-- At most 2^28 items, from credits that these, each moving them by at most 2^32, cannot bring beyond 2^60.
pub record BlockFits (now : ConnectionState) (items : List Item) : Type 0 where
  pub number : length items ≤ 2 ^ 28
  pub client : HasRoom (2 ^ 60 - 2 ^ 32 * length items) now.credit.client
  pub server : HasRoom (2 ^ 60 - 2 ^ 32 * length items) now.credit.server

-- items that fit a connection, each of which moves its credits by little
abbrev pub ItemsFit : ConnectionState → List Item → Type 0
ItemsFit now items = BlockFits now items × AllByRecursion MovesLittle items

-- the connection before each of some blocks
abbrev pub connections_before : ConnectionState → List (List Item) → List ConnectionState
connections_before now [] = []
connections_before now (block ∷ blocks) = now ∷ connections_before (connection_after_all now block) blocks
