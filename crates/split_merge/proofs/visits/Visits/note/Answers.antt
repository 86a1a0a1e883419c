use Rattle.split_merge.proofs.Terms.{set, ap, ◌∙◌, arith, slice_get_within, frames_of, streams_in, counted, total_of}
use Rattle.split_merge.proofs.Terms.{with_next, IsAheadOf}
use Rattle.std.proofs.lemmas.Slice.Zip.{AllZip-long}
use Rattle.split_merge.proofs.Visited.{row_inside, named-row, streams-counted, table-visited, total-counted, total-row}
use Rattle.split_merge.proofs.Ahead.{ahead-zero, ahead-next, ahead-met}
use Rattle.split_merge.proofs.visits.Visits.note.Goals as goal

pub count-requires : goal.count-requires
count-requires c =
    let rows = c.row_of.new.self.rows.items in
    let l = row_inside rows c.in_ok-row.row c.args.stream c.in_ok-row.ensures.row in
    let low = total-counted rows c.in_ok-row.row c.index_mut.result.now l in
    let same = ap total_of c.in_ok-row.ensures.rows in
    let total = total-row c.args.stream c.args.self.now.rows.items in
    let is = ap (λ x. x.count) c.index_mut.ensures.value in
    omega (arith, low.1, same, total.0, is, c.requires.table.1.visits, c.requires.table.2)

pub index_mut-requires-2 : goal.index_mut-requires-2
index_mut-requires-2 c =
    let l = slice_get_within (streams_in c.row_of.new.self.rows.items) c.in_ok-row.row c.args.stream
    c.in_ok-row.ensures.row in
    let next = c.requires.next in
    let rest = with_next c.args.stream c.args.frame.now next.rest in
    let h = c.in_ok-row.ensures.ahead c.args.changes.now next.all rest next.ahead in
    let long = AllZip-long (IsAheadOf c.args.changes.now next.all rest) _ _ h.ahead in
    omega (arith, l, long, c.row_of.new.self.quiets.ok.0)

pub meet-requires : goal.meet-requires
meet-requires c =
    let next = c.requires.next in
    let h = c.in_ok-row.ensures.ahead c.args.changes.now next.all (with_next c.args.stream c.args.frame.now next.rest)
    next.ahead in (
      frames_of c.args.stream next.all,
      next.rest c.args.stream,
      rw c.index_mut-2.ensures.value
          (ahead-next next.rest c.args.stream c.args.frame.now c.in_ok-row.row h c.in_ok-row.ensures.index.distinct
          c.in_ok-row.ensures.row c.index_mut-2.result.now),
    )

pub returns-then-stream-eq0-clause-ahead : goal.returns-then-stream-eq0-clause-ahead
returns-then-stream-eq0-clause-ahead c = λ all rest h.
    ahead-zero c.args.frame.now rest c.args.stream c.if-stream-eq0.true h

pub returns : goal.returns
returns c =
    let rows = c.row_of.new.self.rows.items in
    let row = c.in_ok-row.row in
    let stream = c.args.stream in
    let found = c.in_ok-row.ensures in
    let is = c.count.ensures ∙ ap counted c.index_mut.ensures.value in
    record {
      named = rw (is, streams-counted, found.rows) (named-row stream c.args.self.now.rows.items c.if-stream-eq0.false);
      table = λ notes position h. table-visited rows stream position row c.index_mut.result.now h c.if-stream-eq0.false
          found.rows found.row found.index (ap (λ one. set rows row one) is);
      ahead = λ all rest h.
          let ahead = found.ahead c.args.changes.now all (with_next stream c.args.frame.now rest) h in
          let next = ahead-next rest stream c.args.frame.now row ahead found.index.distinct found.row
          c.index_mut-2.result.now in
          rw (is, streams-counted) (ahead-met rest stream c.args.frame.now row ahead found.index.distinct found.row
          c.meet.new.self (c.meet.ensures _ _ (rw c.index_mut-2.ensures.value next)));
    }
