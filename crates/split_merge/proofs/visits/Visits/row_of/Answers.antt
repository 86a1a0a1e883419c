use Rattle.split_merge.proofs.{Ahead.ahead-new, Terms.[], Terms.refl, Terms.streams_in}
use Rattle.split_merge.proofs.Visited.{found_among, none_among, slice_get-last, streams_in-push}
use Rattle.split_merge.proofs.visits.Visits.row_of.Goals as goal

pub returns-in-Some : goal.returns-in-Some
returns-in-Some c =
    let found = c.hinted_row.ensures c.in-Some.row c.in-Some.is in
    record {
      index = c.requires.index;
      row = found;
      rows = rw (found_among c.args.stream (streams_in c.args.self.now.rows.items) c.in-Some.row found) refl;
      ahead = λ changes all rest h. h;
    }

pub returns-then-not-added : goal.returns-then-not-added
returns-then-not-added c =
    let rows = c.args.self.now.rows.items in
    let found = rw (c.as_slice.ensures.value, c.if-not-added.true) at c.in_ok-row.ensures in
    record {
      index = found.1;
      row = found.0;
      rows = rw (found_among c.args.stream (streams_in rows) c.in_ok-row.row found.0) refl;
      ahead = λ changes all rest h. h;
    }

pub returns : goal.returns
returns c =
    let rows = c.args.self.now.rows.items in
    let new = rw (c.as_slice.ensures.value, c.if-not-added.false) at c.in_ok-row.ensures in
    let named = c.in_ok-push.ensures.items in
    record {
      index = rw (named, streams_in-push) new.2;
      row = rw (named, streams_in-push, new.0) (slice_get-last (streams_in rows) [] c.args.stream);
      rows = rw (named, none_among c.args.stream (streams_in rows) new.1) refl;
      ahead = λ changes all rest h.
          rw (named, streams_in-push, c.in_ok-push-2.ensures.items)
          (ahead-new rest c.args.stream h c.requires.above c.requires.streamed new.1 c.unmet.result c.unmet.ensures);
    }
