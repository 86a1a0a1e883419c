use Rattle.audit_rounds.proofs.Words.{◌<◌, [], ◌∷◌, length, arith, map-append, into_iter_items, part_of}
use Rattle.audit_rounds.proofs.Gathers.{taken-part}
use Rattle.audit_rounds.proofs.Lists.{taken-holds, taken-more}
use Rattle.audit_rounds.proofs.gathering.gathered.Goals as goal

pub loop-part-preserved : goal.loop-part-preserved
loop-part-preserved g c =
    let at = c.loop-part in
    let part = c.in-Some.part in
    let rest = into_iter_items c.next.new.self in
    let steps = c.in-Some.ensures.steps.0 in
    let inside = taken-holds (λ part. part.connection < length c.args.connections.items) at.yielded part rest _ _ steps
    at.invariant.parts c.requires in
    let number = at.invariant.are.number in
    record {
      parts = taken-more at.yielded part rest _ _ steps at.invariant.parts;
      are = rw (map-append part_of at.yielded (part ∷ [])) (taken-part _ (part_of part) c.args.connections.items
          at.all.items c.index_mut.result.now c.add.new.self (omega (arith, inside, number)) c.index_mut.ensures.value
          c.in_ok-add.ensures.same c.in_ok-add.ensures.found at.invariant.are);
    }
