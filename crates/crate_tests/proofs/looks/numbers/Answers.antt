use Rattle.std.proofs.Common.{◌++◌, ◌∷◌, [], refl, sym, ap, ◌∙◌}
use Rattle.std.proofs.lemmas.Slice.{pushed}
use Rattle.crate_tests.proofs.WholeStream.{one-more}
use Rattle.crate_tests.proofs.looks.numbers.Goals as goal

pub loop-at-preserved : goal.loop-at-preserved
loop-at-preserved c =
    pushed (c.loop-at.at ∷ []) refl c.in_ok-push.was c.push.ensures.items
    ∙ ap (λ l. l ++ c.loop-at.at ∷ []) c.loop-at.invariant ∙ sym (one-more c.loop-at.at)
