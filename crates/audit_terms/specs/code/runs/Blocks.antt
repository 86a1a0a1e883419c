-- What blocks of frames show by themselves, each from the connection before it, with no stop.
use Rattle.std.specs.Prelude.{List, [], ◌∷◌, ◌++◌}
use Rattle.audit_terms.specs.declared.items.Item.{Item}
use Rattle.audit_terms.specs.declared.connection_state.ConnectionState.{ConnectionState}
use Rattle.audit_terms.specs.declared.findings.Finding.{Finding}
use Rattle.audit_terms.specs.Connection.{connection_after, connection_said}
use Rattle.audit_terms.specs.Finding.{in_order}

-- the connection after some items
abbrev pub connection_after_all : ConnectionState → List Item → ConnectionState
connection_after_all now [] = now
connection_after_all now (item ∷ items) = connection_after_all (connection_after now item) items

-- the run of a block of items, from the connection before it, with no stop
abbrev pub block_run : ConnectionState → List Item → List Finding
block_run now [] = []
block_run now (item ∷ items) = in_order (connection_said now item) ++ block_run (connection_after now item) items

-- the findings of consecutive blocks, each from the connection before it
abbrev pub block_runs : ConnectionState → List (List Item) → List Finding
block_runs now [] = []
block_runs now (block ∷ blocks) = block_run now block ++ block_runs (connection_after_all now block) blocks
