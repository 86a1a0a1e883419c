-- The words that the proofs of this crate use, of the crates below and of its own specs.
pub use Rattle.std.proofs.{Math.Bool.and-false, Math.Bool.or-true, lemmas.Int.ints}
pub use Rattle.std.proofs.lemmas.{Bool.Decides.nat_tests, Bool.and_parts, Bool.cases_Bool, Bool.cond_both, Simd.map-map}
pub use Rattle.std.specs.{List.AllByRecursion, List.find, List.flat_map, List.list_any, Option.option_map_or}
pub use Rattle.std.specs.Option.{option_to_list}
pub use Rattle.{audit_terms.specs.Side.other, fault_rules.specs.code.StreamSteps.credit_after_step}
pub use Rattle.audit_core.specs.laws.{Apart.AreApart, Apart.AreApartAsErrors, Apart.StandApart, Stop.EndsAt}
pub use Rattle.audit_terms.specs.laws.Pairs.{EachPair}
pub use Rattle.audit_core.specs.laws.{Credit.ConnectionCreditIsSum, Parts.PartsMakeFull, Parts.joined}
pub use Rattle.audit_core.specs.laws.{Credit.StreamCreditIsSum, Steps.StepsJoinFramesAndChanges, Steps.StreamsHaveSteps}
pub use Rattle.audit_core.specs.laws.{Steps.AreRising, Steps.HasFrameOrChange, Stop.KeptUptoFirstStop, Stop.NoneStops}
pub use Rattle.audit_core.specs.laws.LiveWindows.{LiveWindowsAreOpened, LiveWindowsAreUnended}
pub use Rattle.audit_terms.proofs.{Bounds.room-wider, SaidPlaces.at-connection, SaidPlaces.at-in_order}
pub use Rattle.audit_terms.proofs.FindingLists.{each-append, each-filter, each-ordered, each-put, each-weaker}
pub use Rattle.audit_terms.proofs.FindingOrder.{comes_after_is, in_order-alike, in_order-append_comm, in_order-in_order}
pub use Rattle.audit_terms.proofs.OrderedLists.{IsInOrder, in_order-append, in_order-ordered, ordered-in_order}
pub use Rattle.audit_terms.proofs.SaidPlaces.{AreAt, AreFrom, at-local, at-nil, at-stream, from-at, from-from}
pub use Rattle.audit_terms.proofs.SaidPlaces.{AreWithin, at-append, at-settings, from-append, precedes-at, rank-small}
pub use Rattle.audit_terms.specs.{Change.new_initial, Change.new_limit, Sides.side_of, Window.overflows}
pub use Rattle.audit_terms.specs.{Connection.connection_window_said, Stream.life_at, Stream.opens, Stream.step_test}
pub use Rattle.audit_terms.specs.{InForce.initial_in_force, Kind.rank_of, Place.place_of, Place.place_stream}
pub use Rattle.audit_terms.specs.{Life.ends_window, Life.is_last_of, Life.is_opening, Order.ordered_by, Order.put_by}
pub use Rattle.audit_terms.specs.{Side.is_side, code.Places.place_rank, code.runs.LocalFaults.local_run_from}
pub use Rattle.audit_terms.specs.Connection.{connection_after, connection_start, opening_order_said, promise_order_said}
pub use Rattle.audit_terms.specs.Connection.{connection_said, credit_after, length_said, push_said}
pub use Rattle.audit_terms.specs.Finding.{comes_after, finding_at, in_order, say, say_of, stops, upto_stop}
pub use Rattle.audit_terms.specs.Frame.{content_by, increment, is_client_headers, is_content, promised_by, promised_in}
pub use Rattle.audit_terms.specs.Frame.{grant_to, is_ack, meets, promises}
pub use Rattle.audit_terms.specs.InForce.{InForce, change_of, change_taking, in_force_after, settings_said, taken}
pub use Rattle.audit_terms.specs.LocalFault.{body_said, fault, local_said, previous_after, reading_fault}
pub use Rattle.audit_terms.specs.Pass.{PassState, full_from, opens_stream, pass_start, streams_of, streams_said}
pub use Rattle.audit_terms.specs.Pass.{first_of, full, item_of, next, said, step_of}
pub use Rattle.audit_terms.specs.Stream.{frame_said, idle_stream, step_amount, stream_said, window_after, window_step}
pub use Rattle.audit_terms.specs.Stream.{live_window_said, stream_after, stream_window_said, window_at_opening}
pub use Rattle.audit_terms.specs.code.{Room.HasRoom, runs.Orderly.IsInRange, runs.Orderly.IsOrderlyFrom}
pub use Rattle.audit_terms.specs.code.runs.{Changes.changes_from, Changes.settings_run_from, Orderly.IsOrderly}
pub use Rattle.audit_terms.specs.code.runs.{Changes.changes_of, States.items_from, States.state_from}
pub use Rattle.audit_terms.specs.code.runs.Blocks.{block_run, block_runs, connection_after_all}
pub use Rattle.audit_terms.specs.code.runs.Streams.{IsAcknowledged, change_step, initial_after, step_at}
pub use Rattle.audit_terms.specs.code.runs.Streams.{stream_run_from}
pub use Rattle.audit_terms.specs.code.runs.Streams.{frame_step, frames_of, group_run, steps_of, stream_run, with_change}
pub use Rattle.audit_terms.specs.declared.{connection_state.ConnectionState.ConnectionState, settings.Settings.Settings}
pub use Rattle.audit_terms.specs.declared.{findings.Finding.Finding, frames.Body.TheVariants.Settings as SettingsBody}
pub use Rattle.audit_terms.specs.declared.{kinds.Kind.Kind, kinds.Kind.TheVariants.UnmatchedAck, sides.Sides.Sides}
pub use Rattle.audit_terms.specs.declared.{lives.StreamLife.StreamLife, stream_state.Stream.Stream}
pub use Rattle.audit_terms.specs.declared.frames.{Body.Body, Body.TheVariants.Unreadable, Frame.Frame}
pub use Rattle.audit_terms.specs.declared.items.{Change.Change, Item.Item, Step.Step}
pub use Rattle.audit_terms.specs.declared.sides.Side.{Side, TheVariants.Client, TheVariants.Server}
pub use Rattle.audit_terms.specs.laws.Credit.{content_on, since, stream_credit_sum}
pub use borrow.Author.Tests.{eq-eqb, eqb-true, lt-leb, ne_eqb}
