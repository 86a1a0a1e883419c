use Rattle.std.proofs.Common.{◌≡◌, ◌<◌, ◌≤◌, Bool, ℕ, length, get_or}
use Rattle.quiet_pass.specs.declared.opened_rows.Row.{Row}
use Rattle.quiet_pass.specs.code.Rows.{IsLowered}
use Rattle.quiet_pass.specs.code.Shifts.{AreCovered}
use Rattle.quiet_pass.proofs.shifted_rows.lower_all.Given as goal

abbrev pub invariant-loop-at : goal.invariant-loop-at
invariant-loop-at l = let old = l.fn.rows.items in record {
  long : length l.rows.items ≡ length old;
  lowered : (k : ℕ) (d : Row) → k < l.at → IsLowered l.shift (get_or old k d) (get_or l.rows.items k d);
  same : (k : ℕ) (d : Row) → l.at ≤ k → get_or l.rows.items k d ≡ get_or old k d;
  covered : (frames_shown : Bool) → AreCovered frames_shown l.groups l.rows.items;
}
