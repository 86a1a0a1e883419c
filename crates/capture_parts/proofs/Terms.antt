-- The names that several proofs of this crate cite, passed on from one place.
pub use Rattle.std.proofs.Common.{Bool, Err, IfOk, IfSome, IsNone, IsSome, List, None, Option, Some, [], ap, append-nil}
pub use Rattle.std.proofs.Common.{append_assoc, ap₂, arith}
pub use Rattle.std.proofs.Common.{drop, false, find, get_or, if◌then◌else◌, inl, inr, length, length-append}
pub use Rattle.std.proofs.Common.{length-drop, min, refl, rules, slice_index, subst, sym, take, take-append-drop, true}
pub use Rattle.std.proofs.Common.{◌||◌, of_calls, Ok, OnOk, add-one, map, Result, String, nat_lt, string_bytes, vec_len}
pub use Rattle.std.proofs.Common.{ℕ, ◌%◌, ◌*◌, ◌++◌, ◌+◌, ◌-◌, ◌/◌, ◌<◌, ◌==◌, ◌^◌, ◌∙◌, ◌∷◌, ◌≡◌, ◌≤◌}
pub use Rattle.std.proofs.KnownBytes.{Appends-nil, Appends-trans, Consumes-nil, Consumes-trans}
pub use Rattle.std.proofs.Math.Seq.{drop-append_seam, map-set_same, take-add, take-append_seam, take-suc}
pub use Rattle.std.proofs.lemmas.Bool.{both_ways, cases_eq, cases_lt, cond-false, cond-true, eq-eqb}
pub use Rattle.std.proofs.lemmas.Bool.{eqb-false, eqb-true, le-ltb, lt-ltb, ltb-false, ne_eqb, not-false}
pub use Rattle.std.proofs.lemmas.List.{at_drop_more, drop-append-le, drop-take, drop_min, get_or-set_other}
pub use Rattle.std.proofs.lemmas.List.{get_or-set_same, get_or-take, length-take, length-take-le}
pub use Rattle.std.proofs.lemmas.Option.{none-some}
pub use Rattle.std.proofs.lemmas.Result.{on_ok_weaker}
pub use Rattle.std.proofs.lemmas.List.{nil_from_length, take-append-le, take-take, take_all, take_min, take_rest}
pub use Rattle.std.proofs.lemmas.Slice.{take-put_mid}
pub use Rattle.std.specs.Option.{option_or}
pub use Rattle.std.specs.Io.KnownBytes.{Consumes, IsAtEnd}
pub use Rattle.std.specs.List.{AllByRecursion, concat, copy_within}
pub use Rattle.byteorder.specs.Endian.{big_bytes, big_number}
pub use Rattle.byteorder.specs.Numbers.{big_from-append, big_from-take, little_from-append}
pub use Rattle.pcap_records.specs.Record.{BeginsWithRecord, captured_length, record_at}
pub use Rattle.capture_parts.specs.Dealt.{IsRecord, full_at, full_from, given, given_from, pair_at, part_at, part_bytes}
pub use Rattle.capture_parts.specs.Dealt.{part_full, part_numbers}
pub use Rattle.capture_parts.specs.Files.{order_of}
pub use Rattle.capture_parts.specs.code.Standing.{IsDealt}
pub use Rattle.capture_parts.specs.Pair.{endpoint_key, front_of, names_endpoints, pair_in, pair_of, part_of}
pub use Rattle.capture_parts.specs.Parts.{AllGrow, AreSplit, Grows}
pub use Rattle.capture_parts.specs.Inputs.{HasHeld, HaveHeld}
pub use Rattle.capture_parts.specs.code.Dealing.{Deals, EndsSplit, HasBegun, HasEntered, HasTurned, OneGrows}
pub use Rattle.capture_parts.specs.declared.dealer.Dealer.{Dealer}
pub use Rattle.capture_parts.specs.declared.pair.Endpoints.{Endpoints}
pub use Rattle.capture_parts.specs.declared.part.FullPart.{FullPart}
pub use Rattle.capture_parts.specs.declared.part.Part.{Part}
pub use Rattle.capture_parts.specs.laws.Parts.{SameRecords, SegmentsName}

-- ---- of one answer or another, which the libraries do not have

pub option_or-none : {X : Type 0} (o : Option X) → option_or o None ≡ o
option_or-none None = refl
option_or-none (Some x) = refl

pub option_or_assoc : {X : Type 0} (a b c : Option X) → option_or (option_or a b) c ≡ option_or a (option_or b c)
option_or_assoc None b c = refl
option_or_assoc (Some x) b c = refl
