use Rattle.audit_rounds.proofs.Words.{findings_in, List, refl, arith, Bor, Frame, shown, pass}
use Rattle.audit_rounds.proofs.Lists.{batch-more}
use Rattle.audit_rounds.proofs.entry.findings_of_each.Goals as goal

pub loop-done-preserved : goal.loop-done-preserved
loop-done-preserved g c =
    let at = c.loop-done in
    let rest = c.split_at in
    let batch = c.next_batch-batch in
    let left = rest.ensures.back_len in
    let few = batch.ensures.within in
    let within = at.invariant.within in
    let shows = c.args.division.now.frames_shown in
    record {
      within = omega (arith, left, few, within);
      shown = batch-more findings_in (λ (frames : Bor (List Frame)). shown shows (pass frames.now))
          at.all.items c.in_ok-found.found.items c.append.new.self.items c.args.connections.now batch.result.now
          rest.result.1.now at.done _ refl batch.ensures.front rest.ensures.back c.in_ok-append.ensures.items
          at.invariant.shown c.in_ok-found.ensures;
    }
