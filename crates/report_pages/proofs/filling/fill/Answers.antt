use Rattle.std.proofs.Common.{arith, ap, append_assoc, sym, take, ◌-◌, ◌++◌, ◌≡◌, ◌∙◌}
use Rattle.std.specs.List.{concat}
use Rattle.report_pages.specs.code.Entries.{entries_at, entries_of_piece}
use Rattle.report_pages.proofs.Steps.{fill-more, length-piece}
use Rattle.report_pages.proofs.filling.fill.Goals as goal

pub loop-left-preserved : goal.loop-left-preserved
loop-left-preserved c =
    let step = c.step.ensures in
    let before = c.loop-left.cursor in
    let shown = before.frames_shown in
    let piece = c.step.result.0 in
    let count = piece.to - piece.from in
    let so_far = c.loop-left.invariant in
    let more = fill-more (entries_at before) (entries_of_piece shown piece) (entries_at c.step.result.1)
    c.loop-left.left
    count step.entries (length-piece shown piece step.piece) step.few in
    let added = c.add_piece.ensures in
    let piece_text = concat (entries_of_piece c.args.from.frames_shown piece) in
    let rest = concat (take (c.loop-left.left - count) (entries_at c.step.result.1)) in
    let whole : concat (take c.loop-left.left (entries_at before)) ≡ piece_text ++ rest =
    rw (← so_far.frames_shown) more in
    record {
      cursor = step.cursor;
      frames_shown = step.frames_shown ∙ so_far.frames_shown;
      few = omega (arith, so_far.few);
      text = ap (λ l. l ++ rest) added.items ∙ append_assoc c.loop-left.page.items piece_text rest
          ∙ ap (λ l. c.loop-left.page.items ++ l) (sym whole) ∙ so_far.text;
      len = omega (arith, so_far.len, added.len, step.few);
      capacity = omega (arith, so_far.capacity, added.capacity);
    }
