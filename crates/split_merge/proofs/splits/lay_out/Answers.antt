use Rattle.split_merge.proofs.Terms.{◌∙◌, sym, arith, append_assoc, append-nil, at_drop_all}
use Rattle.split_merge.proofs.Terms.{Visited, laid_out, total_of}
use Rattle.std.proofs.lemmas.List.{at_drop_more}
use Rattle.split_merge.proofs.splits.lay_out.Goals as goal

-- any row, for a place that has one
abbrev none : Visited
none = record { stream = 0; count = 0 }

pub loop-row-preserved : goal.loop-row-preserved
loop-row-preserved c =
    let loud = c.args.loud.now in
    let i = c.loop-row.row-index in
    let was = c.loop-row.invariant in
    record {
      rows = rw (c.in_ok-push.ensures.items, append_assoc)
          (rw (at_drop_more (laid_out c.loop-row.total) loud i none c.loop-row-test.true) at was.rows);
      total = omega (arith, rw (at_drop_more total_of loud i none c.loop-row-test.true) at was.total);
    }

pub overflow_add-total : goal.overflow_add-total
overflow_add-total c =
    let i = c.loop-row.row-index in
    omega (
      arith,
      c.requires,
      rw (at_drop_more total_of c.args.loud.now i none c.loop-row-test.true)
          at c.loop-row.invariant.total,
    )

pub returns : goal.returns
returns c =
    let loud = c.args.loud.now in
    let i = c.loop-row.row-index in
    let was = c.loop-row.invariant in
    record {
      rows = sym (append-nil _)
          ∙ (rw (at_drop_all (laid_out c.loop-row.total) loud i c.loop-row-test.false) at was.rows);
      total = omega (arith, rw (at_drop_all total_of loud i c.loop-row-test.false) at was.total);
    }
