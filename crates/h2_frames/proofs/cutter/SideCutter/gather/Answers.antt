use Rattle.std.proofs.Common.{◌++◌, arith, length-append, length-drop, length-take-le, subst, take}
use Rattle.std.proofs.lemmas.List.{take_rest}
use Rattle.h2_frames.proofs.Cutters.{gathered, gathered_at_once}
use Rattle.h2_frames.specs.code.Cutter.{HasGot}
use Rattle.h2_frames.proofs.cutter.SideCutter.gather.Goals as goal

pub add_wanted-requires-2 : goal.add_wanted-requires-2
add_wanted-requires-2 c =
    let (tail, is, few) = c.requires in
    let n = c.in_ok-header.header in
    let more = c.args.more.now in
    let got = c.in_ok-header.ensures tail is in (
      tail ++ take n more,
      got.begun,
      rw (take_rest more n) (omega (
        arith,
        few,
        got.count,
        length-append tail (take n more),
        length-drop n more,
        length-take-le n more (omega (arith, got.count)),
      )),
    )

pub returns-then-header-more : goal.returns-then-header-more
returns-then-header-more c = λ tail is none.
    let n = c.in_ok-header.header in
    let more = c.args.more.now in
    let got = c.in_ok-header.ensures tail is in
    gathered_at_once tail more c.add_wanted.new.self n none (omega (arith, c.if-header-more.true)) got

pub returns : goal.returns
returns c = λ tail is none.
    let n = c.in_ok-header.header in
    let more = c.args.more.now in
    let got = c.in_ok-header.ensures tail is in
    let then = c.in_ok-payload.ensures (tail ++ take n more) got.begun in
    gathered tail more c.add_wanted.new.self c.add_wanted-2.new.self n c.in_ok-payload.payload none got
    (subst (λ rest. HasGot (tail ++ take n more) rest c.in_ok-payload.payload c.add_wanted-2.new.self)
    (take_rest more n) then)
