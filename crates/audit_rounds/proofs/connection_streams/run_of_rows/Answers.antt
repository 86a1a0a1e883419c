use Rattle.audit_rounds.proofs.Words.{take, get_or, take_more, in_order, in_order-append_left, StreamRow}
use Rattle.audit_rounds.proofs.StreamWork.{work-more}
use Rattle.audit_rounds.proofs.connection_streams.run_of_rows.Goals as goal

pub loop-row-preserved : goal.loop-row-preserved
loop-row-preserved g c =
    let rows = c.args.rows.now in
    let at = c.loop-row.row-index in
    let found = c.loop-row.work.findings.items in
    let run = c.in_ok-run.run' in
    let d : StreamRow = record { stream = 0; from = 0; to = 0 } in
    let added = c.in_ok-add_run.ensures in
    rw (
      take_more rows at d c.loop-row-test.true,
      added.upto,
      added.findings,
      added.opened,
      ← in_order-append_left found run.findings.items,
    )
    (work-more g.L.Look.answers c.args.frames_shown c.args.streams.now (take at rows) (get_or rows at d)
    c.args.look.now c.loop-row.look c.run_of_row.new.look (in_order found) run.findings.items
    c.loop-row.work.made.items run.opened_at c.loop-row.work.upto run.upto c.loop-row.invariant c.in_ok-run.ensures)
