use Rattle.std.proofs.Common.{◌≡◌, ◌<◌, ◌≤◌, ℕ, length, get_or, true, drop, ◌++◌}
use Rattle.std.specs.List.{flat_map}
use Rattle.audit_terms.specs.Finding.{shown}
use Rattle.quiet_pass.specs.declared.opened_rows.Row.{Row}
use Rattle.quiet_pass.specs.code.Rows.{IsRowStepped, row_said}
use Rattle.quiet_pass.proofs.opened_rows.say_all.Given as goal

-- what was found so far, and what the rest shows, is the whole answer
abbrev pub invariant-loop-at : goal.invariant-loop-at
invariant-loop-at l = let old = l.fn.rows.items in record {
  long : length l.rows.items ≡ length old;
  stepped : l.are_kept ≡ true → (k : ℕ) (d : Row) → k < l.at
      → IsRowStepped l.before l.step (get_or old k d) (get_or l.rows.items k d);
  same : (k : ℕ) (d : Row) → l.at ≤ k → get_or l.rows.items k d ≡ get_or old k d;
  said : shown l.frames_shown l.found.items
      ++ shown l.frames_shown (flat_map (row_said l.before l.step) (drop l.at old))
      ≡ shown l.frames_shown l.fn.found.items ++ shown l.frames_shown (flat_map (row_said l.before l.step) old);
}
