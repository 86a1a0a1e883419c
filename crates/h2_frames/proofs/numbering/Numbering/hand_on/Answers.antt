use Rattle.std.proofs.Common.{◌+◌, ◌++◌, ◌∷◌, [], arith, refl, subst, sym}
use Rattle.std.proofs.lemmas.Result.{on_ok_weaker}
use Rattle.h2_frames.proofs.Feeding.{comes_next, handed_next}
use Rattle.h2_frames.specs.code.Handed.{IsNextFrame}
use Rattle.h2_frames.proofs.numbering.Numbering.hand_on.Goals as goal

pub take-requires : goal.take-requires
take-requires g c =
    let (frames, has, few) = c.requires.room in (
      frames,
      has.visited,
      subst (λ frame. IsNextFrame frames frame) (sym c.brought-frame.ensures)
          (comes_next g.V.FrameVisitor.after c.args.source c.args.spelled frames c.args.self.now has c.requires.fits
          c.requires.time few),
    )

pub returns : goal.returns
returns g c = λ frames is.
    let after = g.V.FrameVisitor.after in
    let (some, has, few) = c.requires.room in
    let stage = c.args.self.now in
    on_ok_weaker c.take.result
    (λ visited. handed_next after c.args.source c.args.spelled frames stage
    (record { visitor = c.take.new.self; taken = stage.taken + 1 }) is c.requires.fits c.requires.time
    (omega (arith, few, has.count, is.count))
    (subst (λ frame. after (frames ++ frame ∷ []) c.take.new.self) c.brought-frame.ensures visited)
    refl)
    (c.take.ensures frames is.visited (subst (λ frame. IsNextFrame frames frame) (sym c.brought-frame.ensures)
    (comes_next after c.args.source c.args.spelled frames stage is c.requires.fits c.requires.time
    (omega (arith, few, has.count, is.count)))))
