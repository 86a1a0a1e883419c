use Rattle.std.proofs.Common.{[], ap, arith, length-append, ◌∙◌}
use Rattle.std.proofs.lemmas.List.{append-nil}
use Rattle.h2_frames.proofs.Words.{body_of}
use Rattle.h2_frames.proofs.bodies.body_of.Goals as goal

pub returns : goal.returns
returns c =
    let payload = c.args.payload.now in
    c.body_of_front.ensures [] (omega (arith, length-append payload []))
    ∙ ap (body_of c.args.code c.args.flags) (append-nil payload)
