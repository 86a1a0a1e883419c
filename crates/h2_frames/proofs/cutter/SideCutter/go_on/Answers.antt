use Rattle.std.proofs.Common.{◌≡◌, ◌<◌, ◌∙◌, ◌++◌, [], ap, arith, length, subst, sym}
use Rattle.std.proofs.lemmas.List.{append-nil, nil_from_length}
use Rattle.h2_frames.proofs.Feeding.{all_gathered, cut_behind_none, cut_none, gone_within, none_begun, none_left}
use Rattle.h2_frames.proofs.Feeding.{some_left}
use Rattle.h2_frames.proofs.Words.{HoldsNoFrame, nat_tests}
use Rattle.h2_frames.specs.code.Cutter.{HasCut, IsBegun}
use Rattle.h2_frames.proofs.cutter.SideCutter.go_on.Goals as goal

pub returns-then-is_empty : goal.returns-then-is_empty
returns-then-is_empty g c = λ tail is none.
    let more = c.args.more.now in
    let empty : length more ≡ 0 = none_left more c.is_empty.result c.is_empty.ensures c.if-is_empty.true in
    let same : tail ≡ tail ++ more = sym (append-nil tail) ∙ ap (λ l. tail ++ l) (sym (nil_from_length more empty)) in
    subst (λ bytes. HasCut g.V.FrameVisitor.after c.args.source c.args.stage.now bytes c.args.self.now c.args.stage.now)
    same (cut_none g.V.FrameVisitor.after c.args.source c.args.stage.now tail c.args.self.now none is)

pub gather-requires : goal.gather-requires
gather-requires g c =
    let (tail, is, none, (frames, has, few)) = c.requires.begun in (
      tail,
      is,
      omega (
        arith,
        few,
        gone_within g.V.FrameVisitor.after c.args.source c.args.stage.now c.args.more.now c.in_ok-rest.rest.now
            c.hand_on_all.new.stage c.in_ok-rest.ensures.on c.in_ok-rest.ensures.none,
      ),
    )

pub returns-in_ok-gather : goal.returns-in_ok-gather
returns-in_ok-gather g c = λ tail is none.
    let more = c.args.more.now in
    let rest = c.in_ok-rest.rest.now in
    let some : 0 < length more = some_left more c.is_empty.result c.is_empty.ensures c.if-is_empty.false in
    let empty : tail ≡ [] = none_begun tail c.args.self.now is (c.requires.none some) in
    let begun : IsBegun [] c.args.self.now = subst (λ l. IsBegun l c.args.self.now) empty is in
    let got = c.in_ok-gather.ensures [] begun (subst (λ l. HoldsNoFrame l) empty none) in
    cut_behind_none g.V.FrameVisitor.after c.args.source c.args.stage.now c.hand_on_all.new.stage tail more rest
    c.gather.new.self empty c.in_ok-rest.ensures.on c.in_ok-rest.ensures.none
    (all_gathered rest c.in_ok-gather.field-0 c.gather.new.self c.in_ok-rest.ensures.none got)

pub returns-else-not-is_empty : goal.returns-else-not-is_empty
returns-else-not-is_empty g c = λ tail is none.
    let more = c.args.more.now in
    let rest = c.in_ok-rest.rest.now in
    let some : 0 < length more = some_left more c.is_empty.result c.is_empty.ensures c.if-is_empty.false in
    let empty : tail ≡ [] = none_begun tail c.args.self.now is (c.requires.none some) in
    let zero : length rest ≡ 0 = grind (arith, nat_tests, c.is_empty-2.ensures, c.if-not-is_empty.false) in
    let same : tail ≡ rest = empty ∙ sym (nil_from_length rest zero) in
    cut_behind_none g.V.FrameVisitor.after c.args.source c.args.stage.now c.hand_on_all.new.stage tail more rest
    c.args.self.now empty c.in_ok-rest.ensures.on c.in_ok-rest.ensures.none
    (subst (λ l. IsBegun l c.args.self.now) same is)
