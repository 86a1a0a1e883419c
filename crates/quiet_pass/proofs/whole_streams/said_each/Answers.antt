use Rattle.stream_credit.proofs.Words.{List, ap, append-nil, arith, drop_all, flat_map, refl, sym, ◌++◌, ◌∙◌, ◌≤◌}
use Rattle.stream_credit.proofs.Words.{length, map}
use Rattle.quiet_pass.proofs.WholeLemmas.{each-at, flat-more, map-more}
use Rattle.quiet_pass.specs.code.WholeStreams.{FitsWhole, whole_after, whole_said}
use Rattle.quiet_pass.specs.declared.whole_streams.WholeStream.{WholeStream}
use Rattle.quiet_pass.proofs.whole_streams.said_each.Goals as goal

pub loop-at-init : goal.loop-at-init
loop-at-init c = record { said = refl; after = rw c.in_ok-made.ensures.items refl }

pub say_stream-requires-clause-streamed : goal.say_stream-requires-clause-streamed
say_stream-requires-clause-streamed c =
    (each-at FitsWhole c.args.list.now c.loop-at.at _ _ c.stream_at-one.ensures c.requires.fits).stream

pub say_stream-requires-clause-client : goal.say_stream-requires-clause-client
say_stream-requires-clause-client c =
    (each-at FitsWhole c.args.list.now c.loop-at.at _ _ c.stream_at-one.ensures c.requires.fits).client

pub say_stream-requires-clause-server : goal.say_stream-requires-clause-server
say_stream-requires-clause-server c =
    (each-at FitsWhole c.args.list.now c.loop-at.at _ _ c.stream_at-one.ensures c.requires.fits).server

pub loop-at-preserved : goal.loop-at-preserved
loop-at-preserved c =
    let was = c.loop-at.invariant in
    let here = c.stream_at-one.ensures in
    let told = c.in_ok-say_stream.ensures in record {
      said = flat-more (whole_said c.args.before.now c.args.step.now) c.args.list.now c.loop-at.at
          c.stream_at-one.result c.loop-at.found.items here told.said was.said;
      after = map-more (whole_after c.args.before.now c.args.step.now) c.args.list.now c.loop-at.at
          c.stream_at-one.result c.loop-at.made.items here (c.in_ok-push.ensures.items ∙ rw told.after refl) was.after;
    }

pub returns-clause-said : goal.returns-clause-said
returns-clause-said c =
    let list = c.args.list.now in
    let done : length list ≤ c.loop-at.at = omega (arith, c.loop-at-test.false) in
    sym (append-nil c.loop-at.found.items)
    ∙ ap (λ (rest : List WholeStream). c.loop-at.found.items
    ++ flat_map (whole_said c.args.before.now c.args.step.now) rest) (sym (drop_all c.loop-at.at list done))
    ∙ c.loop-at.invariant.said

pub returns-clause-after : goal.returns-clause-after
returns-clause-after c =
    let list = c.args.list.now in
    let done : length list ≤ c.loop-at.at = omega (arith, c.loop-at-test.false) in
    sym (append-nil c.loop-at.made.items)
    ∙ ap (λ (rest : List WholeStream). c.loop-at.made.items
    ++ map (whole_after c.args.before.now c.args.step.now) rest) (sym (drop_all c.loop-at.at list done))
    ∙ c.loop-at.invariant.after
