-- The words that the proofs of this crate share, so that each names one module for them.
pub use Rattle.std.proofs.Common.{◌≡◌, ℕ, ◌<◌, ◌≤◌, Bool, true, false, ◌&&◌, not, List, [], ◌∷◌, Option, None, Some}
pub use Rattle.std.proofs.Common.{refl, sym, ◌∙◌, arith, zero, suc, ◌+◌, ◌-◌, ◌^◌, ◌++◌, length, drop, take, slice_get}
pub use Rattle.std.proofs.lemmas.List.{append-nil, append_assoc, length-append, get_or-map, length-map, map-append}
pub use Rattle.std.proofs.lemmas.List.Elements.{All-cons, All-head, All-nil, All-push, All-tail, All-weaker}
pub use Rattle.std.proofs.Common.{ap, IsSome, ◌%◌, filter, get_or, ◌⊎◌, map, set, inl, inr}
pub use Rattle.std.proofs.lemmas.Bool.{false≢true, ne_eqb, or_right, eq-eqb, lt-ltb, le-ltb, Decides.nat_tests}
pub use Rattle.std.proofs.lemmas.{Grind.common_steps, List.Elements.filter_map-append, List.Folds.list_any-append}
pub use Rattle.std.proofs.lemmas.List.{drop-drop, length-take-le, take-append-drop, take_all, Sums.sum_by-cons}
pub use Rattle.std.proofs.lemmas.Option.{IfSome_then, none-some, get_or_from_slice_get, slice_get_within}
pub use Rattle.std.specs.List.{AllPairs, list_any, slice_range, filter_map}
pub use Rattle.std.specs.Option.{option_or, option_to_list}
pub use Rattle.std.specs.Prelude.{if◌then◌else◌, is_none, All, IfSome, IsSomeAnd, nat_lt, option_and_then, IsTrue}
pub use Rattle.audit_terms.specs.declared.sides.Side.{Side, TheVariants.Client, TheVariants.Server}
pub use Rattle.packet_heads.specs.code.Order.{AreNumberedFrom, PayloadsRise, TimesFit}
pub use Rattle.packet_heads.specs.declared.packets.{Packet.Packet, Segment.Segment}
pub use Rattle.packet_heads.specs.declared.packets.Packet.TheVariants.{Segment as Carried}
pub use Rattle.tcp_streams.specs.code.Interval.{AreCaptured, IsInterval, IsCaptured}
pub use Rattle.tcp_streams.specs.code.Interval.{at, bytes_in, size_of}
pub use Rattle.tcp_streams.specs.code.Interval.{source_in, width, IsSame, member_piece, piece}
pub use Rattle.tcp_streams.specs.code.Past.{first_strays, last_opening, members, opening_at, openings, opens, strays}
pub use Rattle.tcp_streams.specs.code.Past.{Membership, membership, connection_of, stray_of, connections_of, past_after}
pub use Rattle.tcp_streams.specs.{Arrivals.Rises, Bytes.bytes_of, Bytes.joined, Packets.segment_in, Packets.segment_of}
pub use Rattle.tcp_streams.specs.{Flow.IsArrivalOf, Flow.IsFlow, Flow.IsGap, Flow.arrival_at, declared.pair.Pair.Pair}
pub use Rattle.tcp_streams.specs.Members.{is_sent_by, segments_of, side_segments}
pub use Rattle.tcp_streams.specs.Membership.{is_opening, is_request, with_if}
pub use Rattle.tcp_streams.specs.{Pair.is_endpoint, Pair.is_same_pair, code.Assembled.IsAssembled}
pub use Rattle.tcp_streams.specs.Sequence.{Source, arrival, end_of_offsets, payload_length, source}
pub use Rattle.tcp_streams.specs.code.{Pairs.is_of, Pairs.pair_of, Pairs.is_pair}
pub use Rattle.tcp_streams.specs.code.Orderly.{AreTimely, AreMembers, payload_sum}
pub use Rattle.tcp_streams.specs.code.{Past.past_of, Past.with_packet, Standings.standing_of}
pub use Rattle.tcp_streams.specs.code.Table.{RecordsDescend, IsOpened, IsTableOf, IsUnopened}
pub use Rattle.tcp_streams.specs.declared.{interval.Interval.Interval, members.Connection.Connection, flows.Flow.Flow}
pub use Rattle.tcp_streams.specs.declared.{members.Stray.Stray, standings.Standing.TheVariants.Opened}
pub use Rattle.tcp_streams.specs.declared.{started_side.StartedSide.StartedSide, flows.Arrival.Arrival}
pub use Rattle.tcp_streams.specs.declared.{table.Table.Table}
