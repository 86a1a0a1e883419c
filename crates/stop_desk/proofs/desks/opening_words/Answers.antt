use Rattle.stop_desk.proofs.Words.{arith, refl, ◌∙◌}
use Rattle.std.proofs.lemmas.List.{map-append, take_all, take_more}
use Rattle.stop_desk.proofs.desks.opening_words.Goals as goal

pub loop-stop-init : goal.loop-stop-init
loop-stop-init c = rw (c.in_ok-push.ensures.items, c.in_ok-words.ensures.items) refl

pub loop-stop-preserved : goal.loop-stop-preserved
loop-stop-preserved c =
    c.in_ok-push-2.ensures.items ∙ rw (
      c.loop-stop.invariant,
      take_more c.args.stops.now _ c.stop-item.result c.loop-stop-test.true,
      map-append,
      ← c.stop-item.is,
      c.word_of.ensures,
    )

pub returns : goal.returns
returns c = rw (take_all c.loop-stop.stop-index c.args.stops.now (omega arith)) at c.loop-stop.invariant
