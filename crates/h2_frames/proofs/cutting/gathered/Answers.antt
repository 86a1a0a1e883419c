use Rattle.std.proofs.Common.{◌∙◌, ◌++◌, ap, get_or, sym}
use Rattle.h2_frames.proofs.Joining.{joined-more, no_piece}
use Rattle.h2_frames.proofs.cutting.gathered.Goals as goal

pub loop-piece-preserved : goal.loop-piece-preserved
loop-piece-preserved c =
    let pieces = c.args.pieces.now in
    let at = c.loop-piece.piece-index in
    c.in_ok-extend_from_slice.ensures.items
    ∙ ap (λ l. l ++ (get_or pieces at no_piece).now) c.loop-piece.invariant
    ∙ sym (joined-more pieces at c.loop-piece-test.true)
