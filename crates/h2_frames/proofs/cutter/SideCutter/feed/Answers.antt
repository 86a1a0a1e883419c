use Rattle.std.proofs.Common.{◌≡◌, ◌++◌, ◌∙◌, ap, append_assoc, drop, subst, take}
use Rattle.std.proofs.lemmas.List.{take-append-drop, take_rest}
use Rattle.std.proofs.lemmas.Result.{on_ok_weaker}
use Rattle.h2_frames.proofs.Feeding.{cut_both, cut_room, spells-tail}
use Rattle.h2_frames.specs.code.Cutter.{HasCut}
use Rattle.h2_frames.proofs.cutter.SideCutter.feed.Goals as goal

pub go_on-requires-clause-begun : goal.go_on-requires-clause-begun
go_on-requires-clause-begun g c =
    let (tail, is, none, room) = c.requires.begun in
    let more = c.args.more.now in
    let used = c.in_ok-used.used in
    let cut = c.in_ok-used.ensures.cut tail is none in (
      cut.tail,
      cut.begun,
      spells-tail (tail ++ take used more) cut.tail cut.spelled cut.spells,
      rw (take_rest more used)
          (cut_room g.V.FrameVisitor.after c.args.source c.args.stage.now c.complete.new.stage tail more used
          c.complete.new.self c.in_ok-used.ensures.within cut room),
    )

pub returns : goal.returns
returns g c = λ tail is none.
    let after = g.V.FrameVisitor.after in
    let more = c.args.more.now in
    let used = c.in_ok-used.used in
    let cut = c.in_ok-used.ensures.cut tail is none in
    let all : (tail ++ take used more) ++ drop used more ≡ tail ++ more =
    append_assoc tail (take used more) (drop used more) ∙ ap (λ l. tail ++ l) (take-append-drop used more) in
    on_ok_weaker c.go_on.result
    (λ later. subst (λ l. HasCut after c.args.source c.args.stage.now l c.go_on.new.self c.go_on.new.stage) all
    (cut_both after c.args.source c.args.stage.now c.complete.new.stage c.go_on.new.stage (tail ++ take used more)
    (drop used more) c.complete.new.self c.go_on.new.self cut
    (subst (λ l. HasCut after c.args.source c.complete.new.stage (cut.tail ++ l) c.go_on.new.self c.go_on.new.stage)
    (take_rest more used) later)))
    (c.go_on.ensures cut.tail cut.begun (spells-tail (tail ++ take used more) cut.tail cut.spelled cut.spells))
