use Rattle.std.proofs.Common.{◌≡◌, ◌+◌, ◌*◌, ◌++◌, ◌≤◌, take, vec_len, vec_capacity}
use Rattle.std.specs.List.{concat}
use Rattle.report_pages.specs.code.Entries.{IsCursor, entries_at, steps_at}
use Rattle.report_pages.proofs.filling.fill.Given as goal

-- what stands on the page, with the entries that are left, is the whole
abbrev pub invariant-loop-left : goal.invariant-loop-left
invariant-loop-left l = record {
  cursor : IsCursor l.cursor;
  frames_shown : l.cursor.frames_shown ≡ l.from.frames_shown;
  few : l.left ≤ l.entries;
  text : l.page.items ++ concat (take l.left (entries_at l.cursor))
      ≡ l.initial.page.items ++ concat (take l.entries (entries_at l.from));
  len : vec_len l.page + 512 * l.left ≤ vec_len l.initial.page + 512 * l.entries;
  capacity : vec_capacity l.initial.page ≤ vec_capacity l.page;
}

abbrev pub decreases-loop-left : goal.decreases-loop-left
decreases-loop-left l = steps_at l.cursor
