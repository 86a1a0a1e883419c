use Rattle.std.proofs.Common.{[], ◌∙◌}
use Rattle.std.proofs.lemmas.List.{get_or_default}
use Rattle.report_pages.specs.code.Entries.{section_stretches}
use Rattle.report_pages.proofs.Standing.{current, nothing-headed, within}
use Rattle.report_pages.proofs.cursors.Cursor.current.Goals as goal

pub returns-clause-entries : goal.returns-clause-entries
returns-clause-entries c =
    let cursor = c.args.self.now in
    current cursor.frames_shown cursor.at cursor.stretch cursor.k cursor.headings.now cursor.told.now
    c.first_heading-heading.result.now nothing-headed c.first_told-told.result.now c.first_told-told.result.now _
    c.requires.cursor.stands c.requires.cursor.headed.each c.requires.some
    (c.first_heading-heading.ensures nothing-headed) (c.first_told-told.ensures c.first_told-told.result.now)
    (c.stretch_of.ensures.entries cursor.frames_shown)

pub returns-clause-within : goal.returns-clause-within
returns-clause-within c =
    let cursor = c.args.self.now in
    let shown = cursor.frames_shown in
    let heading = c.first_heading-heading.result.now in
    let told = c.first_told-told.result.now in
    let low = within shown cursor.at cursor.stretch cursor.k cursor.headings.now cursor.told.now
    heading nothing-headed told told c.requires.cursor.stands c.requires.cursor.headed.each c.requires.some
    (c.first_heading-heading.ensures nothing-headed) (c.first_told-told.ensures told) in
    let same = c.stretch_of.ensures.entries shown in
    rw (same ∙ get_or_default (section_stretches shown cursor.k heading told) cursor.stretch _ [] low.0) low.1
