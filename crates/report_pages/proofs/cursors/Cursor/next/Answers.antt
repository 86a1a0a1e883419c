use Rattle.std.proofs.Common.{arith, sym, refl, ◌≡◌, length, get_or}
use Rattle.std.proofs.lemmas.List.{drop-drop}
use Rattle.report_pages.specs.code.Entries.{section_stretches, told_stretches}
use Rattle.report_pages.proofs.Standing.{behind, nothing-headed, stands-next, within}
use Rattle.report_pages.proofs.cursors.Cursor.next.Goals as goal

pub returns-then-self-count_stretches-clause-stretches : goal.returns-then-self-count_stretches-clause-stretches
returns-then-self-count_stretches-clause-stretches c =
    let cursor = c.args.self in
    sym (drop-drop 1 cursor.stretch (told_stretches cursor.frames_shown cursor.k cursor.headings.now cursor.told.now))

pub returns-then-self-count_stretches-clause-cursor : goal.returns-then-self-count_stretches-clause-cursor
returns-then-self-count_stretches-clause-cursor c =
    let cursor = c.args.self in
    let shown = cursor.frames_shown in
    let heading = get_or cursor.headings.now 0 nothing-headed in
    let less = c.if-self-count_stretches.true in
    let count : c.count_stretches.result
    ≡ length (section_stretches shown cursor.k heading c.first_told-told.result.now) =
    c.count_stretches.ensures shown cursor.k heading in
    record {
      headed = c.requires.cursor.headed;
      stands = stands-next shown cursor.at cursor.stretch cursor.k cursor.headings.now cursor.told.now heading
          nothing-headed c.first_told-told.result.now c.first_told-told.result.now
          c.requires.cursor.stands c.requires.cursor.headed.each c.requires.some refl
          (c.first_told-told.ensures c.first_told-told.result.now)
          (omega (arith, less, count));
    }

pub returns-clause-stretches : goal.returns-clause-stretches
returns-clause-stretches c =
    let cursor = c.args.self in
    let shown = cursor.frames_shown in
    let heading = get_or cursor.headings.now 0 nothing-headed in
    let told = c.first_told-told.result.now in
    let more = c.if-self-count_stretches.false in
    let count : c.count_stretches.result
    ≡ length (section_stretches shown cursor.k heading c.first_told-told.result.now) =
    c.count_stretches.ensures shown cursor.k heading in
    let low = within shown cursor.at cursor.stretch cursor.k cursor.headings.now cursor.told.now heading nothing-headed
    told told c.requires.cursor.stands c.requires.cursor.headed.each c.requires.some refl
    (c.first_told-told.ensures c.first_told-told.result.now) in
    rw (c.split_at.ensures.back, c.split_at-2.ensures.back)
    (behind shown cursor.stretch cursor.k cursor.headings.now cursor.told.now heading nothing-headed told told
    c.requires.cursor.headed.each c.requires.some refl (c.first_told-told.ensures c.first_told-told.result.now)
    (omega (arith, more, count, low.0)))
