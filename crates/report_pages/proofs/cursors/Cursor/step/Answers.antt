use Rattle.std.proofs.Common.{arith, ap, drop, length, length-append, length-drop, length-take, take, refl, ◌++◌, ◌≡◌}
use Rattle.std.proofs.Common.{◌+◌, ◌-◌}
use Rattle.report_pages.specs.code.Entries.{entries_at, entries_in, entries_of, stretches_at}
use Rattle.report_pages.proofs.Standing.{stands-further}
use Rattle.report_pages.proofs.Steps.{step-past, step-within}
use Rattle.report_pages.proofs.cursors.Cursor.step.Goals as goal

pub returns-then-most-end : goal.returns-then-most-end
returns-then-most-end c =
    let cursor = c.args.self in
    let shown = cursor.frames_shown in
    let stretch = c.current-stretch.result in
    let entries = entries_of shown stretch in
    let size = c.len-end.ensures shown in
    let low = c.current-stretch.ensures.within in
    let to = cursor.at + c.args.most in
    let less = c.if-most-end.true in
    let stretches = c.current-stretch.ensures.entries in
    let here = step-within (stretches_at cursor) entries cursor.at to stretches (omega arith)
    (omega (arith, size, low, less)) in
    record {
      piece = record {
        orderly = c.current-stretch.ensures.orderly;
        rises = omega arith;
        within = omega (arith, size, low, less);
      };
      few = omega arith;
      entries = here;
      cursor = record {
        headed = c.requires.cursor.headed;
        stands = stands-further shown cursor.at to cursor.stretch cursor.k cursor.headings.now cursor.told.now
            entries (stretches_at cursor) c.requires.cursor.stands c.requires.cursor.headed.each c.requires.some
            refl stretches (omega (arith, size, low, less));
      };
      frames_shown = refl;
      less = λ some. omega (
        arith,
        ap length here,
        some,
        size,
        low,
        less,
        length-append (take (to - cursor.at) (drop cursor.at entries)) (drop to (entries_in (stretches_at cursor))),
        length-take (to - cursor.at) (drop cursor.at entries),
        length-drop cursor.at entries,
      );
    }

pub returns : goal.returns
returns c =
    let cursor = c.args.self in
    let next = c.next.result in
    let shown = cursor.frames_shown in
    let stretch = c.current-stretch.result in
    let entries = entries_of shown stretch in
    let size = c.len-end.ensures shown in
    let stretches = c.current-stretch.ensures.entries in
    let low = c.current-stretch.ensures.within in
    let past = step-past (stretches_at cursor) (stretches_at next) entries cursor.at next.at
    stretches low c.next.ensures.stretches c.next.ensures.first in
    let here : entries_at cursor ≡ take (c.len-end.result - cursor.at) (drop cursor.at entries) ++ entries_at next =
    rw size past in
    let fewer : length (stretches_at cursor) ≡ length (stretches_at next) + 1 =
    omega (arith, ap length stretches, ap length c.next.ensures.stretches) in
    record {
      piece = record {
        orderly = c.current-stretch.ensures.orderly;
        rises = omega (arith, size, low);
        within = omega (arith, size);
      };
      few = omega (arith, c.if-most-end.false);
      entries = here;
      cursor = c.next.ensures.cursor;
      frames_shown = c.next.ensures.frames_shown;
      less = λ some. omega (
        arith,
        fewer,
        ap length here,
        length-append (take (c.len-end.result - cursor.at) (drop cursor.at entries)) (entries_at next),
      );
    }
