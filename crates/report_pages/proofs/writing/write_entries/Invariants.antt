use Rattle.std.proofs.Common.{◌≡◌, ◌++◌, List, ℕ, length, Ok}
use Rattle.std.specs.List.{concat}
use Rattle.report_pages.specs.code.Entries.{IsCursor, entries_at, steps_at}
use Rattle.input_output.specs.declared.report_writer.WriteFault.{WriteFault}
use Rattle.report_pages.specs.code.Pages.{ArePages}
use Rattle.report_pages.specs.code.Written.{HasWritten}
use Rattle.report_pages.proofs.writing.write_entries.Given as goal

-- what is written, with the entries that are left, is the whole
abbrev pub invariant-loop-cursor : goal.invariant-loop-cursor
invariant-loop-cursor g l = record {
  cursor : IsCursor l.cursor;
  are : ArePages l.entries l.cursor.told.now l.pages;
  same : length l.pages ≡ length l.initial.pages;
  done : List ℕ;
  whole : done ++ concat (entries_at l.cursor) ≡ concat (entries_at l.from);
  written : HasWritten {E = WriteFault} g.W.Write.contents l.initial.writer l.writer done (Ok tt);
}

abbrev pub decreases-loop-cursor : goal.decreases-loop-cursor
decreases-loop-cursor g l = steps_at l.cursor
