use Rattle.audit_terms.proofs.OrderlyFrames.{drop-at}
use Rattle.fault_rules.proofs.ChangeLemmas.{changes_from-orderly, changes_of-acknowledged}
use Rattle.fault_rules.proofs.Terms.{append-nil, append_assoc, changes_of, drop_all, in_force_after, initial_in_force}
use Rattle.fault_rules.proofs.Terms.{refl, ◌+◌, ◌≡◌}
use Rattle.fault_rules.proofs.pairing.pair.Goals as goal

pub loop-frame-init : goal.loop-frame-init
loop-frame-init c = record {
  now = initial_in_force;
  low = 0;
  pending = c.new-pending.ensures;
  orderly = c.requires;
  changes = rw c.new.ensures.items refl;
  findings = rw c.new-2.ensures.items refl;
}

pub meet-requires : goal.meet-requires
meet-requires c =
    (rw (drop-at c.args.frames.now _ _ c.frame-item.is c.loop-frame-test.true) at c.loop-frame.invariant.orderly).1

pub loop-frame-preserved : goal.loop-frame-preserved
loop-frame-preserved c =
    let was = c.loop-frame.invariant in
    let frame = c.frame-item.result in
    let here = drop-at c.args.frames.now _ frame c.frame-item.is c.loop-frame-test.true in
    let did = c.in_ok-meet.ensures in record {
      now = in_force_after was.now frame;
      low = frame.number + 1;
      pending = did.pending was.now was.pending;
      orderly = (rw here at was.orderly).2;
      changes = rw (did.changes was.now was.pending, append_assoc) (rw here at was.changes);
      findings = rw (did.findings was.now was.pending, append_assoc) (rw here at was.findings);
    }

pub returns : goal.returns
returns c =
    let was = c.loop-frame.invariant in
    let past = drop_all c.loop-frame.frame-index c.args.frames.now c.loop-frame-test.false in
    let changes : c.loop-frame.pairs.changes.items ≡ changes_of c.args.frames.now =
    rw (past, append-nil) at was.changes in
    record {
      changes = changes;
      findings = rw (past, append-nil) at was.findings;
      orderly = rw changes (changes_from-orderly 0 initial_in_force c.args.frames.now c.requires);
      acknowledged = rw changes (changes_of-acknowledged c.args.frames.now c.requires);
    }
