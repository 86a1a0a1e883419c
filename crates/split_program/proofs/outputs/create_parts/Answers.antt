use Rattle.std.proofs.Common.{List, [], add-one, arith, length, refl, take, ◌<◌, ℕ, ◌+◌, ◌++◌, ◌∷◌, ◌≡◌}
use Rattle.std.proofs.Math.Seq.{take-suc}
use Rattle.std.proofs.lemmas.Result.{err_from_is_err_and}
use Rattle.split_program.specs.declared.paths.PartPaths.{PartPaths}
use Rattle.split_program.proofs.Parts.{MakesParts-snoc}
use Rattle.split_program.proofs.outputs.create_parts.Goals as goal

pub loop-part-preserved : goal.loop-part-preserved
loop-part-preserved g c =
    let at : ℕ = c.loop-part.part-index in
    let paths : List PartPaths = c.args.paths.now in
    let path : PartPaths = c.part-item.result in
    let within : at < length paths = c.loop-part-test.true in
    let more : take (at + 1) paths ≡ take at paths ++ path ∷ [] =
    rw (add-one, take-suc paths at path, ← c.part-item.is) refl in
    let (part, is, items) = c.in_ok-add.ensures.added in
    record {
      made = rw (more, items) (MakesParts-snoc g.O.Outside.does g.F.Write.contents c.args.header.now
          c.args.outside.now c.loop-part.outside c.create_part.new.outside (take at paths) c.loop-part.parts.items path
          part c.loop-part.invariant.made (rw is at c.create_part.ensures.made));
      count = omega (arith, c.in_ok-add.ensures.count, c.loop-part.invariant.count);
    }

pub returns-in_err-add-clause-failed : goal.returns-in_err-add-clause-failed
returns-in_err-add-clause-failed g c =
    let at : ℕ = c.loop-part.part-index in
    let paths : List PartPaths = c.args.paths.now in
    let path : PartPaths = c.part-item.result in
    let within : at < length paths = c.loop-part-test.true in
    let more : take (at + 1) paths ≡ take at paths ++ path ∷ [] =
    rw (add-one, take-suc paths at path, ← c.part-item.is) refl in
    let p = err_from_is_err_and c.from_residual.result c.from_residual.ensures.1 in
    rw p.1 (
      at,
      c.loop-part.parts.items,
      c.loop-part.outside,
      c.loop-part.invariant.made,
      (
        path,
        more,
        c.create_part.ensures.failed,
      ),
    )
