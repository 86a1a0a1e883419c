use Rattle.std.proofs.Common.{◌≡◌, ◌⊎◌, ◌<◌, drop}
use Rattle.report_pages.specs.code.Entries.{IsCursor, entries_at, steps_at}
use Rattle.report_pages.proofs.cursors.Cursor.skip.Given as goal

-- so many entries less are left behind the cursor
abbrev pub invariant-loop-left : goal.invariant-loop-left
invariant-loop-left l = record {
  cursor : IsCursor l.cursor;
  frames_shown : l.cursor.frames_shown ≡ l.fn.self.frames_shown;
  entries : drop l.left (entries_at l.cursor) ≡ drop l.fn.entries (entries_at l.fn.self);
  less : ((l.left ≡ l.fn.entries) × (l.cursor ≡ l.fn.self)) ⊎ (steps_at l.cursor < steps_at l.fn.self);
}

abbrev pub decreases-loop-left : goal.decreases-loop-left
decreases-loop-left l = steps_at l.cursor
