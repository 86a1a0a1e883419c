-- The words that the proofs of this crate use, of the crates below and of its own specs.
pub use Rattle.audit_terms.specs.code.runs.Orderly.{IsInRange, IsOrderlyFrom}
pub use Rattle.audit_terms.specs.declared.sides.{Side.TheVariants.Client, Side.TheVariants.Server, Sides.Sides}
pub use Rattle.audit_terms.specs.declared.{frames.Frame.Frame, settings.Settings.Settings, sides.Side.Side}
pub use Rattle.audit_terms.specs.{Frame.promised_in, Order.ordered_by, Order.put_by, Side.side_order}
pub use Rattle.h2_frames.specs.CaptureOrder.{byte_arrival, capture_order, captured, captured_from, comes_after}
pub use Rattle.h2_frames.specs.Preface.{BeginsWithPreface, IsPrefaceCutShort, preface}
pub use Rattle.h2_frames.specs.Settings.{first_bad, last_value, setting_at, settings_in, settings_of}
pub use Rattle.h2_frames.specs.Spelling.{HoldsNoFrame, Makes, Spells}
pub use Rattle.h2_frames.specs.code.Sent.{AreAhead}
pub use Rattle.h2_frames.specs.code.Handed.{HaveNumbersFrom}
pub use Rattle.h2_frames.specs.code.{Cutting.IsFoundCut, Cutting.IsOrderlyCut, Orderly.HasOrderlyFrames}
pub use Rattle.h2_frames.specs.code.{Merge.merged, SameCut.IsSameCut}
pub use Rattle.h2_frames.specs.code.{Steps.IsReadable, Steps.arrivals_from, Steps.with_setting}
pub use Rattle.h2_frames.specs.declared.cuts.Cut.TheVariants.{Http2, NoHandshake, NoPreface, NotHttp2}
pub use Rattle.h2_frames.specs.declared.cuts.Cut.{Cut}
pub use Rattle.h2_frames.specs.declared.{headers.Header.Header}
pub use Rattle.h2_frames.specs.declared.{settings.Setting.Setting, side_frames.SideFrame.SideFrame}
pub use Rattle.h2_frames.specs.declared.{spelling.Spelled.Spelled}
pub use Rattle.h2_frames.specs.laws.Unique.{CutIsUnique, IsSameFlow, SpellingIsUnique}
pub use Rattle.h2_frames.specs.{Body.body_of, CaptureOrder.numbered, Cut.IsCut, Cut.IsHttp2, Header.header_of}
pub use Rattle.std.proofs.lemmas.{Bool.cond_both, Bool.Decides.nat_tests, List.append-nil, List.take-append-drop}
pub use Rattle.std.specs.Prelude.{Err, Ok, Result, nat_lt, ◌==◌}
pub use Rattle.std.specs.{List.AllByRecursion, Option.ForSome}
pub use Rattle.tcp_streams.specs.declared.flows.{Arrival.Arrival, Flow.Flow}
pub use Rattle.tcp_streams.specs.{Arrivals.Rises, Bytes.bytes_of, Bytes.joined, code.Orderly.IsOrderly}
