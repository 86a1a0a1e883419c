use Rattle.std.proofs.Common.{◌≡◌, ◌-◌, length, drop, ◌++◌}
use Rattle.std.specs.List.{flat_map}
use Rattle.audit_terms.specs.Finding.{shown}
use Rattle.quiet_pass.specs.code.ShiftSteps.{said_at}
use Rattle.quiet_pass.specs.code.Shifts.{AreCovered}
use Rattle.quiet_pass.proofs.shifted_rows.say_shifted.Given as goal

-- what was found so far, and what the rest shows, is the whole answer
abbrev pub invariant-loop-at : goal.invariant-loop-at
invariant-loop-at l = let shows = l.moving.frames_shown in record {
  covered : AreCovered shows l.fn.groups l.rows → AreCovered shows l.groups l.rows;
  said : AreCovered shows l.fn.groups l.rows
      → shown shows l.found.items ++ shown shows (flat_map (said_at l.moving) (drop l.at l.rows))
      ≡ shown shows l.fn.found.items ++ shown shows (flat_map (said_at l.moving) l.rows);
}

abbrev pub decreases-loop-at : goal.decreases-loop-at
decreases-loop-at l = length l.rows - l.at
