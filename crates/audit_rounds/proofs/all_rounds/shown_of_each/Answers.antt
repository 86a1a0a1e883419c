use Rattle.audit_rounds.proofs.Words.{◌∙◌, arith, length, List, Frame, Prepared, PerConnection, shown, pass}
use Rattle.audit_rounds.proofs.Words.{IfOk-weaker}
use Rattle.audit_rounds.proofs.Batches.{few-ready}
use Rattle.audit_rounds.proofs.Lists.{frames_in, maps-alike, sums-alike}
use Rattle.audit_rounds.proofs.all_rounds.shown_of_each.Goals as goal

abbrev of : PerConnection → Prepared
of one = one.prepared

pub round_over_streams-requires-clause-few : goal.round_over_streams-requires-clause-few
round_over_streams-requires-clause-few g c κs within =
    few-ready c.args.division.now.frames_shown c.args.connections.now c.in_ok-ready.ready.items c.requires
    c.in_ok-ready.ensures

pub rounds_over_blocks-requires-clause-few : goal.rounds_over_blocks-requires-clause-few
rounds_over_blocks-requires-clause-few g c κs within =
    let few = few-ready c.args.division.now.frames_shown c.args.connections.now c.in_ok-ready.ready.items c.requires
    c.in_ok-ready.ensures in
    let same = sums-alike of of (λ (prepared : Prepared). length prepared.frames.now) c.in_ok-through.through.items
    c.in_ok-ready.ready.items c.in_ok-through.ensures.same in
    omega (arith, few, same)

pub returns : goal.returns
returns g c =
    let shows = c.args.division.now.frames_shown in
    let passed = λ (frames : List Frame). shown shows (pass frames) in
    IfOk-weaker c.rounds_over_blocks.result _ _ (λ found is.
    is
    ∙ maps-alike of of (λ prepared. passed prepared.frames.now) c.in_ok-through.through.items c.in_ok-ready.ready.items
    c.in_ok-through.ensures.same
    ∙ maps-alike (λ (one : PerConnection). one.prepared.frames.now) frames_in passed c.in_ok-ready.ready.items _
    c.in_ok-ready.ensures.frames) c.rounds_over_blocks.ensures
