use Rattle.audit_rounds.proofs.Words.{arith, get_or_default, None}
use Rattle.std.proofs.lemmas.Grind.{common_steps}
use Rattle.audit_rounds.proofs.Gathers.{half-more}
use Rattle.audit_rounds.proofs.gathering.closed.Goals as goal

pub loop-part-preserved : goal.loop-part-preserved
loop-part-preserved c = grind (arith, common_steps)

pub loop-n-preserved : goal.loop-n-preserved
loop-n-preserved c =
    let at = c.loop-n in
    let number = at.invariant.number in
    let stops = c.requires.stops in
    half-more c.args.parts.now c.args.stops.now c.args.connections.items at.all.items at.n
    c.index_mut-in-loop-n.result.now c.close.new.self (omega (arith, number, stops, c.loop-n-test.true))
    c.index_mut-in-loop-n.ensures.value
    (rw (get_or_default c.args.stops.now at.n None c.index-stops-n.result c.loop-n-test.true, ← c.index-stops-n.is)
    c.in_ok-close.ensures) at.invariant

pub returns : goal.returns
returns c =
    let at = c.loop-n in
    let stops = c.requires.stops in
    record {
      number = at.invariant.number;
      each = λ n one other l. (at.invariant.each n one other l).closed (omega (arith, stops, l));
    }
