use Rattle.audit_terms.proofs.LeastPlaces.{first-more, first-none}
use Rattle.std.{proofs.Common.arith, proofs.Common.take, proofs.lemmas.List.take_all, proofs.lemmas.List.take_more}
use Rattle.audit_terms.proofs.stops.first_stop_place.Goals as goal

pub loop-one-init : goal.loop-one-init
loop-one-init c = first-none

pub loop-one-preserved : goal.loop-one-preserved
loop-one-preserved c =
    let xs = c.args.found.now in
    let at = c.loop-one.one-index in
    rw (take_more xs at c.one-item.result c.loop-one-test.true, ← c.one-item.is, c.stop_with-stop.ensures)
    (first-more (take at xs) c.one-item.result c.loop-one.stop c.loop-one.invariant)

pub returns : goal.returns
returns c =
    rw (take_all c.loop-one.one-index c.args.found.now (let f = c.loop-one-test.false in omega arith))
    at c.loop-one.invariant
