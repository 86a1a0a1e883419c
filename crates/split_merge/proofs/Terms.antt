-- The names that several proofs of this crate cite, passed on from one place.
pub use Rattle.audit_terms.specs.Finding.{comes_after, in_order, shown, upto_stop}
pub use Rattle.audit_terms.specs.Frame.{is_ack, meets, promised_by, promises}
pub use Rattle.audit_terms.specs.Pass.{first_of, streams_of}
pub use Rattle.audit_terms.specs.code.SeenStreams.{is_among, with_stream, without}
pub use Rattle.audit_terms.specs.code.runs.{Orderly.IsInRange, Orderly.IsOrderly, Streams.frames_of, Streams.stream_run}
pub use Rattle.audit_terms.specs.declared.{frames.Frame.Frame, items.Change.Change}
pub use Rattle.split_merge.specs.code.Ahead.{AreAhead, EndQuiet, IsAheadOf, EndsQuietOf, with_next}
pub use Rattle.split_merge.specs.code.Loud.{ArePlaces, CanPlace, IsPlacing, loud_of, opened_in, places_from, quiet_in}
pub use Rattle.split_merge.specs.code.Split.{ArePositionsOf, opening_of, positions_from, positions_of, row_positions}
pub use Rattle.split_merge.specs.code.Visits.{AreBelow, AreFilled, IsFilled, IsTableOf, NotAmong, NotBefore}
pub use Rattle.split_merge.specs.code.Visits.{AreDistinct, longer, noted_positions, notes_from, streams_in}
pub use Rattle.split_merge.specs.code.Visits.{IsIndex, IsRowOf, counted, laid_out, noted, rows_of, total_of, with_row}
pub use Rattle.split_merge.specs.code.{Loud.IsKept, Loud.IsLaid, Split.IsRange, Split.IsSplit}
pub use Rattle.split_merge.specs.declared.{row_index.RowIndex.RowIndex, splits.SplitFrames.SplitFrames}
pub use Rattle.split_merge.specs.declared.{splits.StreamRow.StreamRow, visits.Visited.Visited}
pub use Rattle.std.proofs.Common.{Bool, List, Option, arith, false, filter, flat_map, get_or, inl, length, rules, subst}
pub use Rattle.std.proofs.Common.{MatchOption, append_assoc, if◌then◌else◌, mul-div_cancel, option_to_list, slice_get}
pub use Rattle.std.proofs.Common.{None, Some, drop, inr, map, min, not, refl, set, take, true, zero, ◌++◌, ◌==◌}
pub use Rattle.std.proofs.Common.{[], ap, suc, sym, ℕ, ◌*◌, ◌+◌, ◌-◌, ◌/◌, ◌<◌, ◌^◌, ◌∙◌, ◌∷◌, ◌≡◌, ◌≢◌, ◌≤◌}
pub use Rattle.std.proofs.lemmas.Bool.{OnTrue_from, cases_lt, eq-eqb, ne_eqb, Decides.nat_tests}
pub use Rattle.std.proofs.lemmas.List.Elements.{All-filter, All-from_recursion, filter-append}
pub use Rattle.std.proofs.lemmas.List.{append-nil, get_or-map, length-drop, length-map, length_push, take-set-le}
pub use Rattle.std.proofs.lemmas.List.{at_drop_all, drop-set-add, drop-set-lt, get_or-drop, get_or-take, with_items_is}
pub use Rattle.std.proofs.lemmas.List.{drop-append-le, get_or_append_left, length-append, length-take-le, take_more_set}
pub use Rattle.std.proofs.lemmas.List.{drop-drop, drop_all, drop_more, get_or_at, length-set, map-append, take_more}
pub use Rattle.std.proofs.lemmas.Option.{get_or_from_slice_get, slice_get-get_or, slice_get-map, slice_get_within}
pub use Rattle.std.proofs.lemmas.{Grind.common_steps, List.map_push}
pub use Rattle.std.specs.List.{All, AllByRecursion, AllZip, between, find, position_or_len, range_with_len}
pub use Rattle.stream_credit.specs.code.StreamPart.{frames_at}
pub use Rattle.stream_credit.specs.declared.quiet_streams.QuietStream.{QuietStream}
