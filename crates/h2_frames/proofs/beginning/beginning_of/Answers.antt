use Rattle.std.proofs.Common.{◌+◌, ◌++◌, ◌∙◌, List, ap, drop, get_or, subst, sym, ℕ}
use Rattle.h2_frames.proofs.Greetings.{greeted_more}
use Rattle.h2_frames.proofs.Joining.{joined-more, joined-parts, no_piece}
use Rattle.h2_frames.proofs.Words.{joined}
use Rattle.h2_frames.specs.code.Greeting.{IsGreeted}
use Rattle.h2_frames.proofs.beginning.beginning_of.Goals as goal

pub loop-piece-preserved : goal.loop-piece-preserved
loop-piece-preserved c =
    let pieces = c.args.pieces.now in
    let at = c.loop-piece.piece-index in
    let short = rw c.in-CutShort.is at c.greeting_of.ensures in
    record {
      within = short.0;
      bytes = joined-more pieces at c.loop-piece-test.true
          ∙ ap (λ l. l ++ (get_or pieces at no_piece).now) c.loop-piece.invariant.bytes ∙ short.1;
    }

pub returns-in_default : goal.returns-in_default
returns-in_default c =
    let pieces = c.args.pieces.now in
    let at = c.loop-piece.piece-index in
    let more = joined (drop (at + 1) pieces) in
    let greeted = c.greeting_of.result in
    let whole = joined-parts pieces (at + 1)
    ∙ ap (λ l. l ++ more)
    (joined-more pieces at c.loop-piece-test.true
    ∙ ap (λ l. l ++ (get_or pieces at no_piece).now) c.loop-piece.invariant.bytes) in (
      greeted.1.now ++ more,
      subst (λ (bytes : List ℕ). IsGreeted bytes (greeted.1.now ++ more) greeted.0) (sym whole)
          (greeted_more _ greeted.1.now more greeted.0 c.in_default.not-CutShort c.greeting_of.ensures),
    )
