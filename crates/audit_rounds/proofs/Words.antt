-- What the proofs of this crate name, in one place.
pub use Rattle.std.proofs.Common.{◌≡◌, ℕ, ◌<◌, ◌≤◌, Bool, true, false, nat_lt, if◌then◌else◌, List, [], ◌∷◌, map, take}
pub use Rattle.std.proofs.Common.{drop, length, get_or, refl, sym, ap, ◌∙◌, subst, arith, Bor, Vec, Global, not, ◌==◌}
pub use Rattle.std.proofs.Common.{◌||◌, ◌&&◌, ◌++◌, filter, append_assoc, append-nil, ◌+◌, All, Option, Some, None}
pub use Rattle.std.proofs.Common.{slice_get, set, zero, suc, ◌*◌, ◌-◌, ◌^◌, flat_map, ◌⊎◌, inl, inr, min, Contains, pos}
pub use Rattle.std.proofs.Common.{is_none, ⊎_elim, leb, rules, length-set}
pub use Rattle.std.proofs.Math.Seq.{get_or-append_seam}
pub use Rattle.std.proofs.lemmas.Bool.{ne_eqb, eq-eqb}
pub use Rattle.std.proofs.lemmas.Bool.Decides.{nat_tests}
pub use Rattle.std.proofs.lemmas.Grind.{flat_map-append}
pub use Rattle.std.proofs.lemmas.List.{take-append-drop, length-map, get_or-map, nil_from_length, take_more}
pub use Rattle.std.proofs.lemmas.List.{get_or_default, map-append, take_all, length-take-le, length-append, length_push}
pub use Rattle.std.proofs.lemmas.List.Elements.{All-map, All-nil, All-head, All-tail, All-append, All-contains}
pub use Rattle.std.proofs.lemmas.List.Elements.{All-filter, Contains-append_left, All-push, All-take, All-drop}
pub use Rattle.std.proofs.lemmas.List.Folds.{list_any-append}
pub use Rattle.std.proofs.lemmas.List.Sorted.{list_any-IsPermutation}
pub use Rattle.std.proofs.lemmas.List.Sums.{sum_by-cons, sum_by_more}
pub use Rattle.std.proofs.lemmas.Option.{slice_get_within, get_or_from_slice_get, slice_get-get_or}
pub use Rattle.std.proofs.lemmas.Result.{IfOk-at_ok, IfOk-weaker}
pub use Rattle.std.specs.List.{list_any, sum_by, AllByRecursion}
pub use Rattle.std.specs.List.Sorted.{IsPermutation}
pub use Rattle.std.specs.Option.{option_to_list}
pub use Rattle.std.specs.Prelude.{Result, Ok, Err, IfOk}
pub use Rattle.std.specs.Vec.Iter.{into_iter_items}
pub use Rattle.audit_terms.proofs.OrderlyFrames.{length-orderly, drop-at}
pub use Rattle.audit_terms.proofs.StreamsMet.{streams_met_lem}
pub use Rattle.audit_core.specs.laws.Parts.{joined}
pub use Rattle.audit_rounds.specs.code.Batch.{IsBatch, AreReady}
pub use Rattle.audit_rounds.specs.code.Blocks.{IsSum, AreSums, IsShort, AreShort, blocks_of_connection}
pub use Rattle.audit_rounds.specs.code.Blocks.{AddsBlocks}
pub use Rattle.audit_rounds.specs.code.Few.{FramesAreFew, RowsAreFew}
pub use Rattle.audit_rounds.specs.code.Gathered.{AreEach, HasTaken, IsClosed, IsInOrder, numbers_told}
pub use Rattle.audit_rounds.specs.code.PerConnection.{BeginsRounds, IsThroughStreams, rest_of, wholes}
pub use Rattle.audit_rounds.specs.code.Openings.{openings_of}
pub use Rattle.audit_rounds.specs.code.Plans.{sum_job, block_job, whole_shown, shown_at, IsPlan, where_of}
pub use Rattle.audit_rounds.specs.code.Prepared.{IsPrepared, found_before}
pub use Rattle.audit_rounds.specs.code.Shown.{streams_shown, blocks_shown}
pub use Rattle.audit_rounds.specs.code.StreamJobs.{IsReady, IsJobOf, job_of, job_at, of_rows, plan_from}
pub use Rattle.audit_rounds.specs.code.StreamRound.{AreStreamsOf}
pub use Rattle.audit_rounds.specs.code.Streams.{IsRow, rows_opened, RowsLook, rows_shown, IsWork}
pub use Rattle.audit_rounds.specs.code.Streams.{row_shown, row_opened}
pub use Rattle.audit_rounds.specs.code.Within.{AgreeWithin, IsAfterStreams, frames_within}
pub use Rattle.audit_rounds.specs.declared.block_plans.ReadyBlock.{ReadyBlock}
pub use Rattle.audit_rounds.specs.declared.connection_blocks.ConnectionBlock.{ConnectionBlock}
pub use Rattle.audit_rounds.specs.declared.{per_connection.PerConnection.PerConnection, prepared.Prepared.Prepared}
pub use Rattle.audit_rounds.specs.declared.{stream_jobs.StreamJob.StreamJob, connection_streams.Streams.Streams}
pub use Rattle.audit_rounds.specs.laws.Settling.{Reaches}
pub use Rattle.audit_terms.proofs.FindingOrder.{comes_after_is, in_order-append_left}
pub use Rattle.audit_terms.proofs.OrderedLists.{ordered-in_order, in_order-append, in_order-ordered}
pub use Rattle.audit_terms.proofs.SaidPlaces.{at-in_order, AreFrom, from-at, from-from, from-append, precedes-at}
pub use Rattle.audit_terms.specs.Connection.{connection_said, connection_start, connection_after}
pub use Rattle.audit_terms.specs.Finding.{shown, in_order, upto_stop, is_shown, comes_after}
pub use Rattle.audit_terms.specs.Frame.{promised_by, meets, is_ack, is_headers}
pub use Rattle.audit_terms.specs.InForce.{change_of, settings_said, InForce, in_force_after, initial_in_force, taken}
pub use Rattle.audit_terms.specs.LocalFault.{local_said, no_previous, previous_after}
pub use Rattle.audit_terms.specs.Pass.{pass, PassState, pass_start, first_of, next, step_of, streams_of}
pub use Rattle.audit_terms.specs.Place.{place_number}
pub use Rattle.audit_terms.specs.Sides.{side_of}
pub use Rattle.audit_terms.specs.Stream.{idle_stream, stream_said, stream_after}
pub use Rattle.audit_terms.specs.code.Stops.{IsFirstStop, IsLeast, StopsAt, lesser_place}
pub use Rattle.audit_terms.specs.code.runs.Blocks.{block_run, connection_after_all}
pub use Rattle.audit_terms.specs.code.runs.Changes.{changes_of, settings_run, settings_run_from}
pub use Rattle.audit_terms.specs.code.runs.LocalFaults.{local_run, local_run_from}
pub use Rattle.audit_terms.specs.code.runs.Look.{is_past, Asked, IsRun}
pub use Rattle.audit_terms.specs.code.runs.Orderly.{IsOrderly, IsOrderlyFrom}
pub use Rattle.audit_terms.specs.code.runs.States.{state_from, items_from}
pub use Rattle.audit_terms.specs.code.runs.Streams.{frames_of, stream_at_end, stream_run, initial_after}
pub use Rattle.audit_terms.specs.declared.{connection_state.ConnectionState.ConnectionState, findings.Finding.Finding}
pub use Rattle.audit_terms.specs.declared.{frames.Body.Body, frames.Body.TheVariants.Unreadable, frames.Frame.Frame}
pub use Rattle.audit_terms.specs.declared.{items.Change.Change, items.Item.Item, items.Step.Step, sides.Sides.Sides}
pub use Rattle.audit_terms.specs.declared.stream_state.Stream.{Stream}
pub use Rattle.conn_scan.specs.code.List.{items_in_blocks}
pub use Rattle.conn_scan.specs.code.Block.{BlockFits}
pub use Rattle.conn_scan.specs.code.ConnSum.{conn_sum_of}
pub use Rattle.conn_scan.specs.code.Items.{items_in, IsBlock, NeverFallFrom, is_marked, item_with, items_with}
pub use Rattle.conn_scan.specs.declared.{block_items.Block.Block, sums.ConnSum.ConnSum}
pub use Rattle.stop_desk.proofs.RoundCuts.{whole_is_cut_lem}
pub use Rattle.stop_desk.proofs.RoundMembers.{contains-none}
pub use Rattle.stop_desk.proofs.RoundMerge.{board_merges_lem}
pub use Rattle.stop_desk.specs.code.Board.{Job, findings_of_parts, findings_of_jobs, IsCut, IsPast}
pub use Rattle.stop_desk.specs.code.Heeding.{Heeds, RunLooks}
pub use Rattle.stop_desk.specs.code.Laid.{part_of}
pub use Rattle.stop_desk.specs.code.Settling.{HasSettled}
pub use Rattle.stop_desk.specs.declared.{parts.Part.Part, settling.Settled.Settled}
pub use Rattle.audit_terms.proofs.ShownFindings.{shown-append, in_order-shown}
pub use Rattle.split_merge.specs.code.Findings.{findings_in}
pub use Rattle.split_merge.specs.code.Groups.{groups}
pub use Rattle.split_merge.specs.code.Split.{IsSplit}
pub use Rattle.stream_credit.specs.code.StreamPart.{frames_at}
pub use Rattle.split_merge.specs.declared.findings.Findings.{Findings}
pub use Rattle.split_merge.specs.declared.{splits.SplitFrames.SplitFrames, splits.StreamRow.StreamRow}
pub use Rattle.stop_desk.specs.code.Stop.{IsStop}
pub use Rattle.stream_credit.specs.code.Looks.{opened_up_to}
pub use borrow.Author.Tests.{eqb-true, ltb-true}
