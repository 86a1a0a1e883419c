use Rattle.std.proofs.Common.{◌≡◌, All, length}
use Rattle.report_pages.specs.code.Pages.{HoldsEntries}
use Rattle.report_pages.proofs.pages.empty_pages.Given as goal

-- so many pages are made
abbrev pub invariant-loop : goal.invariant-loop
invariant-loop l = record {
  room : All (HoldsEntries l.entries) l.pages.items;
  count : length l.pages.items ≡ l.counter;
}
