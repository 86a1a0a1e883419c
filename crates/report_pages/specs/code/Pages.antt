-- Pages of a text, and what writes take of it.
use Rattle.std.specs.Global.{Global}
use Rattle.std.specs.List.{concat, flat_map}
use Rattle.std.specs.Prelude.{◌≡◌, ℕ, ◌*◌, ◌<◌, ◌≤◌, ◌^◌, All, List, Vec, length, take}
use Rattle.std.specs.Prelude.{vec_capacity}
use Rattle.audit_report.specs.declared.headings.SectionHeading.{SectionHeading}
use Rattle.report_pages.specs.code.Entries.{entries_at}
use Rattle.report_pages.specs.code.Sections.{AreHeaded}
use Rattle.report_pages.specs.declared.cursors.Cursor.{Cursor}
use Rattle.report_pages.specs.declared.told.Told.{Told}

-- a page has memory for so many entries
abbrev pub HoldsEntries : (entries : ℕ) → Vec ℕ Global → Type 0
HoldsEntries entries page = 512 * entries ≤ vec_capacity page

-- pages have memory for so many entries each; where there are any, there is a page, and it has room for one
pub record ArePages (entries : ℕ) (told : List Told) (pages : List (Vec ℕ Global)) : Type 0 where
  pub room : All (HoldsEntries entries) pages
  pub few : entries * length pages < 2 ^ 64
  pub some : 0 < length told → (0 < entries) × (0 < length pages)

-- what a report is made of
pub record AreParts (headings : List SectionHeading) (told : List Told) (entries : ℕ) (pages : List (Vec ℕ Global))
    : Type 0 where
  pub headed : AreHeaded 1 headings told
  pub are : ArePages entries told pages

-- a page has so many entries from a cursor on, and keeps its memory
pub record IsFilled (cursor : Cursor) (entries : ℕ) (page : Vec ℕ Global) : Type 0 where
  pub text : page.items ≡ concat (take entries (entries_at cursor))
  pub room : HoldsEntries entries page

-- pages have the entries from a cursor on, so many each, and keep their memory
pub record AreFilled (cursor : Cursor) (entries : ℕ) (before after : List (Vec ℕ Global)) : Type 0 where
  pub text : flat_map (λ (page : Vec ℕ Global). page.items) after
      ≡ concat (take (entries * length before) (entries_at cursor))
  pub room : All (HoldsEntries entries) after
  pub same : length after ≡ length before
