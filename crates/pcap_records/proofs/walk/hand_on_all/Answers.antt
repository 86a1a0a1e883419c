use Rattle.std.proofs.Common.{◌-◌, ◌∙◌, ap, arith, drop, length, length-drop, subst, sym, take}
use Rattle.std.proofs.lemmas.List.{drop-drop, length-take}
use Rattle.pcap_records.specs.code.Walk.{IsAt}
use Rattle.pcap_records.proofs.Fronts.{behind}
use Rattle.pcap_records.proofs.walk.hand_on_all.Goals as goal

pub hand_on-requires : goal.hand_on-requires
hand_on-requires g c =
    let (front, is, short) = c.requires in (
      front,
      subst (λ rest. IsAt g.V.RecordVisitor.after front rest c.loop-size.cursor c.loop-size.visitor)
          (sym (behind c.loop-size.done c.args.bytes.now)) (c.loop-size.invariant.at front is),
      short,
    )

pub returns-then-size-eq0-clause-at : goal.returns-then-size-eq0-clause-at
returns-then-size-eq0-clause-at g c = λ front is.
    let after = g.V.RecordVisitor.after in
    let done = c.loop-size.done in
    let bytes = c.args.bytes.now in
    let rest = take (length bytes - done) (drop done bytes) in
    let at = c.in_ok-size.ensures.at front
    (subst (λ rest. IsAt after front rest c.loop-size.cursor c.loop-size.visitor) (sym (behind done bytes))
    (c.loop-size.invariant.at front is)) in
    subst (λ bytes. IsAt after front bytes c.hand_on.new.cursor c.hand_on.new.visitor)
    (ap (λ n. drop n rest) c.if-size-eq0.true ∙ behind done bytes) at

pub loop-size-preserved : goal.loop-size-preserved
loop-size-preserved g c =
    let after = g.V.RecordVisitor.after in
    let done = c.loop-size.done in
    let size = c.in_ok-size.size in
    let bytes = c.args.bytes.now in record {
      within = omega (
        arith,
        c.in_ok-size.ensures.within,
        length-take (length bytes - done) (drop done bytes),
        length-drop done bytes,
        c.loop-size.invariant.within,
      );
      at = λ front is.
          let at = c.in_ok-size.ensures.at front
          (subst (λ rest. IsAt after front rest c.loop-size.cursor c.loop-size.visitor) (sym (behind done bytes))
          (c.loop-size.invariant.at front is)) in
          subst (λ bytes. IsAt after front bytes c.hand_on.new.cursor c.hand_on.new.visitor)
          (ap (drop size) (behind done bytes) ∙ drop-drop size done bytes) at;
    }
