-- How the logic stores a list of calls, which takes no memory.
use Rattle.std.specs.Prelude.{◌≡◌, ◌⊎◌, ℕ, List, refl}
use mathlib.Core.Logic.{inl, inr}
use base.Stored.{coded_unit}
use Rattle.std.specs.Coded.{Coded, code_by, coded⊎, coded_ℕ, coded_list}
use Rattle.input_output.specs.Calls.{Call, moved, flushed, failed}

abbrev split : Call → Unit {0} ⊎ (Unit {0} ⊎ List ℕ)
split failed = inl tt
split flushed = inr (inl tt)
split (moved bytes) = inr (inr bytes)

abbrev join : Unit {0} ⊎ (Unit {0} ⊎ List ℕ) → Call
join (inl _) = failed
join (inr (inl _)) = flushed
join (inr (inr bytes)) = moved bytes

pub join_split : (call : Call) → join (split call) ≡ call
join_split failed = refl
join_split flushed = refl
join_split (moved bytes) = refl

abbrev pub coded_calls : Coded (List Call)
coded_calls = coded_list (code_by (Unit {0} ⊎ (Unit {0} ⊎ List ℕ))
    (coded⊎ coded_unit (coded⊎ coded_unit (coded_list coded_ℕ))) split join join_split)
