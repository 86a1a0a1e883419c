-- The names that several proofs of this crate cite, passed on from one place.
pub use Rattle.std.proofs.Common.{All, List, None, Option, Some, [], ap, append_assoc, arith, drop}
pub use Rattle.std.proofs.Common.{flat_map, get_or, if◌then◌else◌, inl, inr, length, length-append, length-drop, map}
pub use Rattle.std.proofs.Common.{min, refl, subst, suc, sym, take, true, zero, ℕ, ◌%◌, ◌*◌, ◌++◌, ◌+◌, ◌-◌, ◌/◌}
pub use Rattle.std.proofs.Common.{append-nil, ◌<◌, ◌∙◌, ◌∷◌, ◌≡◌, ◌≤◌, ◌⊎◌}
pub use Rattle.std.specs.Prelude.{IfOk, Ok, Result}
pub use Rattle.std.specs.List.{AllByRecursion, AllZip, range_with_len}
pub use Rattle.std.specs.Option.{option_to_list}
pub use Rattle.std.proofs.Math.Seq.{take-add}
pub use Rattle.std.proofs.lemmas.List.{drop-drop, drop_all, drop_more, take-append-drop, take_all, take_min, take_more}
pub use Rattle.std.proofs.lemmas.Grind.{common_steps, div_ceil_times}
pub use Rattle.std.proofs.lemmas.List.Elements.{All-drop, All-from_recursion, All-take}
pub use Rattle.audit_terms.specs.declared.sides.Side.{Side}
pub use Rattle.audit_terms.specs.declared.sides.Side.TheVariants.{Client, Server}
pub use Rattle.audit_terms.specs.declared.sides.Sides.{Sides}
pub use Rattle.audit_terms.specs.declared.frames.Frame.{Frame}
pub use Rattle.audit_terms.specs.declared.items.Change.{Change}
pub use Rattle.audit_terms.specs.declared.settings.Settings.{Settings}
pub use Rattle.audit_terms.specs.Sides.{side_of}
pub use Rattle.audit_terms.specs.Frame.{is_ack}
pub use Rattle.audit_terms.specs.InForce.{InForce, change_taking, in_force_after, initial_in_force, taken}
pub use Rattle.audit_terms.specs.code.runs.Changes.{AreAcknowledged, AreOrderlyFrom, changes_from, changes_of}
pub use Rattle.audit_terms.specs.code.runs.Changes.{settings_run, settings_run_from}
pub use Rattle.audit_terms.specs.code.runs.Orderly.{IsInRange, IsOrderly, IsOrderlyFrom}
pub use Rattle.audit_terms.specs.Finding.{finding_at, in_order}
pub use Rattle.audit_terms.specs.code.runs.LocalFaults.{local_run, local_run_from}
pub use Rattle.fault_rules.specs.code.Pending.{IsPending}
pub use Rattle.fault_rules.specs.code.Shares.{AreBefores, before_share, last_from, previous_after_all, share_run}
pub use Rattle.std.proofs.lemmas.Int.{ints}
pub use Rattle.fault_rules.specs.code.Said.{said_by}
pub use Rattle.std.proofs.lemmas.Slice.{pushed}
pub use Rattle.rayon.specs.Numbers.{nat_range}
pub use Rattle.rayon.proofs.ToStd.{nat_range-All}
