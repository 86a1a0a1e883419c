-- The words that the proofs of this crate share, so that each names one module for them.
pub use Rattle.std.proofs.Common.{All, Bool, Contains, List, None, Option, Some, [], add-zero, ap, append-nil}
pub use Rattle.std.proofs.Common.{append_assoc, arith, count_by, drop, eq-eqb, eqb-true, false, filter, flat_map}
pub use Rattle.std.proofs.Common.{get_or, get_or-set_other, get_or-set_same, if◌then◌else◌, inl, inr, le-ltb, leb-false}
pub use Rattle.std.proofs.Common.{length, length-append, length-set, lt-ltb, ltb-true, map, min, mul_comm, nat_le}
pub use Rattle.std.proofs.Common.{nat_lt, ne_eqb, not, refl, rules, set, slice_get, slice_set, subst, suc, sym, take}
pub use Rattle.std.proofs.Common.{take-append-drop, true, zero, ℕ, ⊎_elim, ◌%◌, ◌*◌, ◌++◌, ◌+◌, ◌-◌, ◌<◌, ◌==◌}
pub use Rattle.std.proofs.Common.{◌^◌, ◌∙◌, ◌∷◌, ◌≡◌, ◌≤◌, ◌⊎◌}
pub use Rattle.std.proofs.lemmas.Bool.{cases_lt, cond_both, not-true, Decides.nat_tests}
pub use Rattle.std.proofs.lemmas.List.Elements.{Contains-append_cases, Contains-append_right}
pub use Rattle.std.proofs.lemmas.List.Sorted.{Contains-permutation, IsPermutation-filter_both, IsPermutation-map}
pub use Rattle.std.proofs.lemmas.List.Sorted.{IsPermutation-middle, IsPermutation-sym, sum_by-IsPermutation}
pub use Rattle.std.proofs.lemmas.List.Sums.{length-filter, sum_by-append, sum_by-cons}
pub use Rattle.std.proofs.lemmas.Option.{get_or_from_slice_get, slice_get-get_or, slice_get_within}
pub use Rattle.std.specs.List.{AllByRecursion, range_with_len, Sorted.IsNonDecreasingBy, Sorted.IsPermutation}
pub use Rattle.atomic_table.specs.Table.{Allows, Final, Joins, Seen, Splits, State, keeps, step}
pub use Rattle.audit_terms.specs.{Finding.comes_after, Finding.in_order, Finding.stops, Finding.upto_stop, Order.put_by}
pub use Rattle.audit_terms.specs.{code.runs.Look.Asked, code.runs.Look.Looked, declared.findings.Finding.Finding}
pub use Rattle.stop_desk.specs.code.{Desk.opening_stop, Desk.pass_draws, Desk.pass_of, Laid.board_with, Laid.part_of}
pub use Rattle.stop_desk.specs.code.Calls.{Draws, IsAtMost, IsClaim, IsLook}
pub use Rattle.stop_desk.specs.code.Counts.{is_mark, is_number, marks, once_below, times, weigh}
pub use Rattle.stop_desk.specs.code.Desk.{ClosedView, DeskId, IsConnection, PassView, closed_of, final_stop}
pub use Rattle.stop_desk.specs.code.Plays.{PassState, Sees, joined}
pub use Rattle.stop_desk.specs.code.Settled.{IsDeskSettled, IsLeastOnDesk}
pub use Rattle.audit_terms.specs.code.Places.{past_places, place_at}
pub use Rattle.stop_desk.specs.code.Stop.{IsStop, stop_word}
pub use Rattle.stop_desk.specs.code.Worked.{DoesJob, DrewJobs, IsAllWorked, IsLaid, IsWorked, stops_on}
pub use Rattle.stop_desk.specs.declared.{audit_round.AuditRound.AuditRound, parts.Part.Part, rule.Knows.Knows}
pub use Rattle.stop_desk.specs.declared.rule.Opening.{Opening}
pub use Rattle.stop_desk.specs.laws.Rounds.{BoardMerges, HasConnections, Merges, RunSettles}
pub use lib.ListN.{get_elem?}
pub use mathlib.Core.Option.{none, some, some-injective, some-ne-none}
pub use native.Mathlib.Decide.{ℕ_discrete}
