use Rattle.std.proofs.Common.{[], arith, length-append, ◌+◌, ◌∷◌}
use Rattle.split_program.proofs.Parts.{AreNamed-snoc}
use Rattle.split_program.proofs.paths.part_paths.Goals as goal

pub loop-index-preserved : goal.loop-index-preserved
loop-index-preserved c =
    let (added, items, named) = c.in_ok-push_paths.ensures in
    let was = c.loop-index.invariant in
    record {
      named = rw items (AreNamed-snoc c.args.folder.now 1 (c.loop-index.index + 1) c.loop-index.paths.items added
          (omega (arith, was.count)) was.named named);
      count = rw items (omega (arith, length-append c.loop-index.paths.items (added ∷ []), was.count));
    }
