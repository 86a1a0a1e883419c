use Rattle.audit_rounds.proofs.Words.{All-push, map-append, BeginsRounds}
use Rattle.std.proofs.lemmas.List.{map_more}
use Rattle.audit_rounds.proofs.Lists.{frames_in}
use Rattle.audit_rounds.proofs.prepared.prepare_one_by_one.Goals as goal

pub loop-frames-preserved : goal.loop-frames-preserved
loop-frames-preserved g c =
    let at = c.loop-frames in
    let here = c.frames-item in
    let Begins = BeginsRounds c.args.division.now.frames_shown in
    let ready = c.in_ok-prepare.ensures in
    record {
      frames = rw (
        c.in_ok-push.ensures.items,
        map_more frames_in c.args.connections.now at.frames-index here.result
            c.loop-frames-test.true,
        ← here.is,
      )
          (simp (map-append, at.invariant.frames, ready.frames));
      each = rw c.in_ok-push.ensures.items (All-push Begins at.made.items _ at.invariant.each ready.ready);
    }
