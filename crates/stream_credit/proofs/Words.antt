-- The words that proofs of this crate cite, passed on from one place. Declares nothing.
pub use Rattle.audit_terms.proofs.FindingLists.{each-in_order}
pub use Rattle.audit_terms.specs.Change.{new_initial, new_limit, new_push}
pub use Rattle.audit_terms.specs.Connection.{connection_after, connection_said}
pub use Rattle.audit_terms.specs.Finding.{in_order, is_shown, say, say_of, shown, upto_stop}
pub use Rattle.audit_terms.specs.Frame.{content_by, grant_to, increment, is_ack, is_reset, is_zero_grant, sends_end}
pub use Rattle.audit_terms.specs.InForce.{InForce, change_of, change_taking, initial_in_force, settings_said, taken}
pub use Rattle.audit_terms.specs.Life.{ends_window, is_after_end, is_last_of, is_not_opened, life_after}
pub use Rattle.audit_terms.specs.{Place.place_number, Side.is_side, Side.other, Sides.side_of}
pub use Rattle.audit_terms.specs.Stream.{WindowStep, frame_said, idle_stream, is_stalled, life_at, live_window_said}
pub use Rattle.audit_terms.specs.Stream.{opened_window_said, opens, step_amount, step_test, stream_after, stream_said}
pub use Rattle.audit_terms.specs.Stream.{stream_window_said, window_after, window_step}
pub use Rattle.audit_terms.specs.{Window.is_used_up, Window.overflows, Window.overruns, code.Room.HasRoom}
pub use Rattle.audit_terms.specs.code.{Room.WindowHasRoom, Watch.IsStopped, Watch.NeverFallFrom, Watch.Watches}
pub use Rattle.audit_terms.specs.code.Standing.{IsMovedBy, IsQuietMove, has_credit, has_ended, without_window}
pub use Rattle.audit_terms.specs.code.Standing.{credit_after_change, window_of}
pub use Rattle.audit_terms.specs.code.runs.Changes.{AreAcknowledged, AreOrderly, AreOrderlyFrom}
pub use Rattle.audit_terms.specs.code.runs.Look.{IsRun, found_before, is_past, steps_between, up_to}
pub use Rattle.audit_terms.specs.code.runs.{Orderly.IsOrderly, Orderly.IsOrderlyFrom, Streams.IsAcknowledged}
pub use Rattle.audit_terms.specs.code.runs.Streams.{change_step, frame_step, initial_after, steps_of, stream_after_all}
pub use Rattle.audit_terms.specs.code.runs.Streams.{stream_at_end, stream_run, stream_run_from, with_change}
pub use Rattle.audit_terms.specs.declared.{connection_state.ConnectionState.ConnectionState, findings.Finding.Finding}
pub use Rattle.audit_terms.specs.declared.frames.{Body.Body, Body.TheVariants.WindowUpdate, Frame.Frame}
pub use Rattle.audit_terms.specs.declared.{items.Change.Change, items.Step.Step, lives.StreamLife.StreamLife}
pub use Rattle.audit_terms.specs.declared.{settings.Settings.Settings, sides.Side.Side, sides.Side.TheVariants.Client}
pub use Rattle.audit_terms.specs.declared.{sides.Side.TheVariants.Server, sides.Sides.Sides, stream_state.Stream.Stream}
pub use Rattle.fault_rules.specs.code.StreamSteps.{credit_after_step, is_overflowing_grant}
pub use Rattle.std.proofs.Common.{Bool, List, None, Option, Some, [], ap, append_assoc, arith, drop, false}
pub use Rattle.std.proofs.Common.{if◌then◌else◌, inl, inr, int_lt, is_none, is_some, length, map, nat_lt, not}
pub use Rattle.std.proofs.Common.{option_map, pos, refl, rules, slice_get, slice_index_or, subst, suc, sym, take, true}
pub use Rattle.std.proofs.Common.{zero, ℕ, ℤ, ◌&&◌, ◌*◌, ◌++◌, ◌+◌, ◌-◌, ◌<◌, ◌==◌, ◌^◌, ◌||◌, ◌∙◌, ◌∷◌}
pub use Rattle.std.proofs.{Common.◌≡◌, Common.◌≤◌, Math.Bool.and-false, Math.Bool.and-true, Math.Bool.or-false}
pub use Rattle.std.proofs.lemmas.Bool.{OnTrue_at, OnTrue_from, and_right, cases_Bool, cases_eq, cond-false}
pub use Rattle.std.proofs.lemmas.Bool.{cond-true, eq-eqb, eqb-true, le-ltb, lt-ltb, ltb-false, ltb-true, ne_eqb}
pub use Rattle.std.proofs.lemmas.Bool.{or_from, or_left, or_parts, Decides.nat_tests, Decides.when_false}
pub use Rattle.std.proofs.lemmas.{Bool.Decides.when_true, Grind.flat_map-append, Int.ints}
pub use Rattle.std.proofs.lemmas.List.{append-nil, drop_all, drop_more, get_or-drop, get_or-set_other, get_or-set_same}
pub use Rattle.std.proofs.lemmas.List.{get_or_default, length-drop, length-set, nil_from_length, take_more, take_rest}
pub use Rattle.std.proofs.lemmas.List.Elements.{All-drop, All-from_recursion, filter-append, recursion_from_All}
pub use Rattle.std.proofs.lemmas.List.Sorted.{IsPartitionPoint-from_clause, IsPartitionedBy-ltb}
pub use Rattle.std.proofs.lemmas.Option.{get_or_from_slice_get, same_Some, slice_get-get_or, slice_get_cases}
pub use Rattle.std.proofs.lemmas.{Option.slice_get_within, Result.IfOk-weaker}
pub use Rattle.std.specs.Bool.{MatchBool, then_some}
pub use Rattle.std.specs.List.{AllByRecursion, flat_map, Sorted.IsPartitionPoint, Sorted.IsPartitionedBy}
pub use Rattle.std.specs.Option.{ForSome, option_copied, option_map_or, option_to_list}
pub use Rattle.stream_credit.specs.code.Changes.{AreFrom, ArePassed, IsBrought, IsDue, after_changes, after_each}
pub use Rattle.stream_credit.specs.code.Changes.{initial_at, met_after}
pub use Rattle.stream_credit.specs.code.Looks.{is_live, is_met, met_from, opened_up_to, step_numbers}
pub use Rattle.stream_credit.specs.code.Merged.{Acknowledge, AcknowledgesAt, frame_with, merged}
pub use Rattle.stream_credit.specs.code.{Quiet.IsMove, Quiet.IsMovedQuietly, QuietStream.IsAhead}
pub use Rattle.stream_credit.specs.code.QuietStream.{IsPassed, IsQuietToEnd, StartsAt}
pub use Rattle.stream_credit.specs.code.Standings.{AreQuiet, IsBalanced, IsNext, IsNextOpened, IsOpenedBy}
pub use Rattle.stream_credit.specs.code.Standings.{IsOpeningStanding, IsStandingAfter, IsQuiet, life_of, opened_of}
pub use Rattle.stream_credit.specs.code.{Standings.stream_of, StreamPart.frames_at, StreamPart.frames_met}
pub use Rattle.stream_credit.specs.code.Walk.{AreInOrder, CanCount, HasEnded, HasRoomAt, HasStopped, IsAt, IsBegun}
pub use Rattle.stream_credit.specs.code.Walk.{HasCounted, IsNumbered, IsSound, WholeRun, met_by, numbers_of}
pub use Rattle.stream_credit.specs.declared.{quiet_moves.Move.Move, quiet_streams.QuietStream.QuietStream}
pub use Rattle.stream_credit.specs.declared.{walks.Walk.Walk, stream_standings.Standings.Standings}
