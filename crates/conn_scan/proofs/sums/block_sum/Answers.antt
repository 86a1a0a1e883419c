use Rattle.conn_scan.proofs.Terms.{◌≡◌, ◌+◌, [], ◌∷◌, ◌++◌, append_assoc, append-nil, sym, ◌∙◌, items_in}
use Rattle.conn_scan.proofs.Terms.{numbers_not_below}
use Rattle.conn_scan.proofs.Terms.{changes_not_below, MovesLittle, each-append, arith}
use Rattle.conn_scan.specs.code.ConnSumLaws.{conn_sum_of-met}
use Rattle.conn_scan.proofs.WalkLemmas.{block_walked, idle_at, walked-idle, walked-from}
use Rattle.std.proofs.lemmas.List.{nil_from_length}
use Rattle.conn_scan.proofs.SumLemmas.{sum_roomy}
use Rattle.conn_scan.proofs.sums.block_sum.Goals as goal

pub count-requires : goal.count-requires
count-requires c =
    let i = c.loop-frame.invariant in
    let room = sum_roomy c.args.block.now i.done _ c.loop-frame.sum i.split c.requires.number i.little i.sum in
    record { client = room.0; server = room.1 }

pub meet-requires : goal.meet-requires
meet-requires c =
    let i = c.loop-frame.invariant in
    let room = sum_roomy c.args.block.now i.done _ c.loop-frame.sum i.split c.requires.number i.little i.sum in
    record { client = room.0; server = room.1 }

pub loop-frame-preserved-then-frame-due : goal.loop-frame-preserved-then-frame-due
loop-frame-preserved-then-frame-due c =
    let i = c.loop-frame.invariant in
    let frame = c.in-Some.frame.now in
    let is = c.in-Some.ensures.cases.0 in
    let item = idle_at frame in
    let idle = walked-idle c.loop-frame.due c.loop-frame.opened.now c.loop-frame.changes.now frame
    c.in-Some.later.now c.if-frame-due.true i.opened i.changes in
    record {
      low = frame.number + 1;
      orderly = (rw is at i.orderly).2;
      opened = i.opened;
      changes = i.changes;
      done = i.done ++ item ∷ [];
      split = rw append_assoc (rw (is, idle) at i.split);
      sum = rw (c.see_promise.ensures, c.count.ensures.counted, i.sum) (sym (conn_sum_of-met i.done item));
      little = each-append MovesLittle i.done (item ∷ []) i.little (c.count.ensures.little, tt);
    }

pub loop-frame-preserved : goal.loop-frame-preserved
loop-frame-preserved c =
    let i = c.loop-frame.invariant in
    let n = c.in-Some.frame.now.number in
    let is = c.in-Some.ensures.cases.0 in
    let orderly = rw is at i.orderly in
    let item = c.item_at.result in
    let left = walked-from (n + 1) (n + 1) (numbers_not_below n c.loop-frame.opened.now)
    (changes_not_below n c.loop-frame.changes.now) c.in-Some.later.now (omega arith) orderly.2 in
    record {
      low = n + 1;
      orderly = orderly.2;
      opened = c.first_number-due-else-frame-due.ensures.opened;
      changes = c.first_number-due-else-frame-due.ensures.changes;
      done = i.done ++ item ∷ [];
      split = rw (
        append_assoc,
        c.item_at.ensures,
        c.numbers_not_below-opened-else-frame-due.ensures,
        c.changes_not_below-changes-else-frame-due.ensures,
        c.numbers_not_below-opened.ensures,
        c.changes_not_below-changes.ensures,
        ← left,
      ) (rw is at i.split);
      sum = rw (c.meet.ensures.met, i.sum) (sym (conn_sum_of-met i.done item));
      little = each-append MovesLittle i.done (item ∷ []) i.little (c.meet.ensures.little, tt);
    }

pub returns : goal.returns
returns c =
    let i = c.loop-frame.invariant in
    let none = nil_from_length c.loop-frame.frames.now c.in_default.ensures.cases in
    let all : i.done ≡ items_in c.args.block.now =
    sym (append-nil i.done) ∙ (rw none at i.split) ∙ block_walked c.args.block.now c.requires.block in
    record { sum = rw (← all) i.sum; little = rw (← all) i.little }
