-- What a clear block of items shows.
use Rattle.std.specs.Prelude.{◌≡◌, true, false, List, []}
use Rattle.std.specs.List.{AllByRecursion}
use Rattle.audit_terms.specs.declared.connection_state.ConnectionState.{ConnectionState}
use Rattle.audit_terms.specs.declared.items.Item.{Item}
use Rattle.audit_terms.specs.declared.findings.Finding.{Finding}
use Rattle.audit_terms.specs.declared.kinds.Kind.TheVariants.{ConnectionCredit}
use Rattle.audit_terms.specs.Finding.{shown}
use Rattle.audit_terms.specs.code.runs.Blocks.{block_run}
use Rattle.conn_scan.specs.code.Clear.{is_clear}

-- a clear block shows connection credit alone, and so nothing where credits are not shown
abbrev pub ClearShowsCredit : Type 0
ClearShowsCredit = (now : ConnectionState) (items : List Item) → is_clear now items ≡ true
    → AllByRecursion (λ (found : Finding). found.kind ≡ ConnectionCredit) (block_run now items)
    × (shown false (block_run now items) ≡ [])
