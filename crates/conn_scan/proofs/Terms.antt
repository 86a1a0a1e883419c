-- The names that several proofs of this crate cite, passed on from one place.
pub use Rattle.std.proofs.Common.{All, Bool, List, None, Option, Some, [], ap, append-nil, append_assoc, arith, false}
pub use Rattle.std.proofs.Common.{if◌then◌else◌, int_le, int_lt, length, length-append, map, max, nat_le, nat_lt, neg_ℤ}
pub use Rattle.std.proofs.Common.{not, pos, refl, subst, suc, sym, true, ℕ, ℤ, ◌%◌, ◌&&◌, ◌*◌, ◌++◌, ◌+ℤ◌, ◌+◌, ◌-ℤ◌}
pub use Rattle.std.proofs.Common.{◌-◌, ◌<ℤ◌, ◌<◌, ◌==◌, ◌^◌, ◌||◌, ◌∙◌, ◌∷◌, ◌≡◌, ◌≤ℤ◌, ◌≤◌}
pub use Rattle.std.proofs.lemmas.Bool.Decides.{nat_tests}
pub use Rattle.std.proofs.lemmas.Int.{by_lt_z, clamps, ints}
pub use Rattle.std.proofs.lemmas.List.{length-map, map-append}
pub use Rattle.std.specs.Int.{int_max, int_min}
pub use Rattle.std.specs.List.{AllByRecursion, find, list_all, list_any}
pub use Rattle.audit_terms.proofs.FindingLists.{each-append, each-filter, each-in_order, each-said, each-weaker}
pub use Rattle.audit_terms.specs.Change.{new_limit}
pub use Rattle.audit_terms.specs.Connection.{connection_after, connection_said, connection_window_said, credit_after}
pub use Rattle.audit_terms.specs.Connection.{is_opened_by_headers}
pub use Rattle.audit_terms.specs.Finding.{in_order, is_shown, shown}
pub use Rattle.audit_terms.specs.Frame.{content_by, grants_nothing, is_server_promise, promised_in}
pub use Rattle.audit_terms.specs.Window.{is_used_up, largest_window, overflows, overruns}
pub use Rattle.audit_terms.specs.code.Room.{HasRoom, HaveMovedLittle}
pub use Rattle.audit_terms.specs.code.Watch.{IsStopped, NeverFallFrom, Watches}
pub use Rattle.audit_terms.specs.code.runs.Blocks.{block_run, connection_after_all}
pub use Rattle.audit_terms.specs.code.runs.Orderly.{IsInRange, IsOrderlyFrom}
pub use Rattle.audit_terms.specs.declared.connection_state.ConnectionState.{ConnectionState}
pub use Rattle.audit_terms.specs.declared.findings.Finding.{Finding}
pub use Rattle.audit_terms.specs.declared.frames.Frame.{Frame}
pub use Rattle.audit_terms.specs.declared.items.Change.{Change}
pub use Rattle.audit_terms.specs.declared.items.Item.{Item}
pub use Rattle.audit_terms.specs.declared.sides.Side.{Side}
pub use Rattle.audit_terms.specs.declared.sides.Side.TheVariants.{Client, Server}
pub use Rattle.conn_scan.specs.code.Shown.{summary-shown}
pub use Rattle.conn_scan.specs.code.Summary.{summary_of}
pub use Rattle.conn_scan.specs.code.Block.{BlockFits, ItemsFit, MovesLittle}
pub use Rattle.conn_scan.specs.code.Clear.{connections, grants_something, is_clear, is_usable, keeps_credit}
pub use Rattle.conn_scan.specs.code.Clear.{openings_rise, promises_allowed, promises_rise}
pub use Rattle.conn_scan.specs.code.Cleared.{credit_clear, ids_clear, is_within, length_clear, push_clear, sum_clear}
pub use Rattle.conn_scan.specs.code.ConnSum.{conn_join, conn_none, conn_one, conn_sum_of}
pub use Rattle.conn_scan.specs.code.Credit.{AreSmall, ChangesFit, credit_change, credit_join, credit_of, high, low}
pub use Rattle.conn_scan.specs.code.Credit.{no_change, one_change}
pub use Rattle.conn_scan.specs.code.CreditLaws.{IsRoomy, credit_shows, high-signed, low-signed, not_above, rest_fits}
pub use Rattle.conn_scan.specs.code.CreditLaws.{roomy, summary_room}
pub use Rattle.conn_scan.specs.code.FitLaws.{first_fit, rest_fit, room-wider}
pub use Rattle.conn_scan.specs.code.Items.{IsBlock, change_at, is_marked, item_with, items_in, items_with}
pub use Rattle.conn_scan.specs.code.Latest.{is_zero, latest_of, least_limit, length_by, lesser_limit, limit_in}
pub use Rattle.conn_scan.specs.code.Latest.{longest_by}
pub use Rattle.conn_scan.specs.code.Latest.{push_in, some_barred_promise, some_early_promise, some_odd_promise}
pub use Rattle.conn_scan.specs.code.Latest.{some_zero_grant}
pub use Rattle.conn_scan.specs.code.Walk.{ChangesStartFrom, StartFrom, changes_not_below, first_change, is_first}
pub use Rattle.conn_scan.specs.code.Walk.{numbers_not_below, walked}
pub use Rattle.conn_scan.specs.declared.block_items.Block.{Block}
