use Rattle.std.proofs.lemmas.Result.{IfOk-weaker}
use Rattle.h2_frames.proofs.Cutters.{got_head, got_payload}
use Rattle.h2_frames.specs.code.Cutter.{HasAdded}
use Rattle.std.proofs.Common.{◌+◌, subst, ℕ}
use Rattle.h2_frames.proofs.cutter.SideCutter.add_wanted.Goals as goal

pub returns-in-Some : goal.returns-in-Some
returns-in-Some c = λ tail is.
    let more = c.args.more.now in
    let old = c.args.self.now in
    let (long, header_is) = c.in-Some.ensures.is tail is in
    IfOk-weaker c.add.result _ _
    (λ n added. got_payload tail more c.in-Some.header old c.add.new.self n is long header_is
    (subst (λ (k : ℕ). HasAdded (9 + c.in-Some.header.length) (9 + k) more old c.add.new.self n) c.needed-kept.ensures
    added))
    c.add.ensures

pub returns-in-None : goal.returns-in-None
returns-in-None c = λ tail is.
    IfOk-weaker c.add-in-None.result _ _
    (λ n added. got_head tail c.args.more.now c.args.self.now c.add-in-None.new.self n is
    (c.in-None.ensures.is tail is) added)
    c.add-in-None.ensures
