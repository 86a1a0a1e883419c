use Rattle.std.proofs.Common.{◌≡◌, ◌<◌, ◌≤◌, ℕ, Some, slice_get}
use Rattle.quiet_pass.specs.code.Shifts.{IsRowQuietFor}
use Rattle.quiet_pass.specs.declared.opened_rows.Row.{Row}
use Rattle.quiet_pass.proofs.row_groups.quiet_of.Given as goal

abbrev pub invariant-loop-at : goal.invariant-loop-at
invariant-loop-at l =
    (k : ℕ) (row : Row) → l.first ≤ k → k < l.at → slice_get l.rows k ≡ Some row
    → IsRowQuietFor l.frames_shown l.quiet row
