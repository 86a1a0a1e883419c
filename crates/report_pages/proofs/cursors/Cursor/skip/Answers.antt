use Rattle.std.proofs.Common.{arith, drop, inr, ◌∙◌, ◌-◌, ◌<◌, subst, ⊎_elim}
use Rattle.report_pages.specs.code.Entries.{entries_at, entries_of_piece, steps_at}
use Rattle.report_pages.proofs.Steps.{length-piece, skip-more}
use Rattle.report_pages.proofs.cursors.Cursor.skip.Goals as goal

pub loop-left-preserved : goal.loop-left-preserved
loop-left-preserved c =
    let step = c.step.ensures in
    let before = c.loop-left.cursor in
    let piece = c.step.result.0 in
    let less = step.less c.loop-left-test.true in
    record {
      cursor = step.cursor;
      frames_shown = step.frames_shown ∙ c.loop-left.invariant.frames_shown;
      entries = skip-more (entries_at before) (entries_of_piece before.frames_shown piece)
          (entries_at c.step.result.1) (drop c.args.entries (entries_at c.args.self)) c.loop-left.left
          (piece.to - piece.from) step.entries (length-piece before.frames_shown piece step.piece) step.few
          c.loop-left.invariant.entries;
      less = inr (⊎_elim (λ same. subst (λ cursor. steps_at c.step.result.1 < steps_at cursor) same.1 less)
          (λ fewer. omega (arith, fewer, less)) c.loop-left.invariant.less);
    }
