use Rattle.split_merge.proofs.Ahead.{ended-more, ended-next}
use Rattle.split_merge.proofs.{Terms.IsAheadOf, Terms.Visited, Terms.[], Terms.frames_of, Terms.get_or, Visited.row-at}
use Rattle.std.proofs.lemmas.Slice.Zip.{AllZip-long}
use Rattle.split_merge.proofs.visits.finish.Goals as goal

-- any row, for a place that has one
abbrev none : Visited
none = record { stream = 0; count = 0 }

pub loop-row-init : goal.loop-row-init
loop-row-init c = λ all h. record {
  long = AllZip-long (IsAheadOf c.args.changes.now all (λ _. [])) _ _ h.ahead;
  ends_quiet = tt;
  ahead = h.ahead;
}

pub end-requires : goal.end-requires
end-requires c =
    let at = row-at c.args.rows.now c.loop-row.row none c.loop-row-test.true in
    let part = c.loop-row.invariant c.requires.all c.requires.ahead in (
      frames_of (get_or c.args.rows.now c.loop-row.row none).stream c.requires.all,
      rw c.index_mut.ensures.value (ended-next _ at part _),
    )

pub loop-row-preserved : goal.loop-row-preserved
loop-row-preserved c = λ all h.
    let at = row-at c.args.rows.now c.loop-row.row none c.loop-row-test.true in
    let part = c.loop-row.invariant all h in
    let stream = (get_or c.args.rows.now c.loop-row.row none).stream in
    ended-more stream at part c.index_mut.result.now c.end.new.quiet (c.end.ensures (frames_of stream all)
    (rw c.index_mut.ensures.value (ended-next stream at part c.index_mut.result.now)))
