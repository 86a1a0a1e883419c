use Rattle.std.proofs.Common.{◌≤◌, ◌∙◌, ap, arith, length}
use Rattle.h2_frames.proofs.Cutters.{header_kept}
use Rattle.h2_frames.proofs.Words.{header_of}
use Rattle.h2_frames.specs.code.Cutter.{needed_by}
use Rattle.h2_frames.proofs.cutter.SideCutter.header.Goals as goal

pub returns-clause-is : goal.returns-clause-is
returns-clause-is c = λ tail is.
    let long : 9 ≤ length tail = omega (arith, is.count) in (
      long,
      c.read.ensures.exact ∙ ap header_of c.deref.ensures.value
          ∙ header_kept tail c.args.self.now.begun.items (needed_by (header_of tail)) long is.kept,
    )
