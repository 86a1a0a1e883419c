use Rattle.conn_scan.proofs.Terms.{shown, block_run, BlockFits, items_in, walked}
use Rattle.conn_scan.proofs.Halfway.{Halfway, numbers_of}
use Rattle.conn_scan.proofs.block_runs.block_findings.Given as goal

-- the items that are left fit the connection, and the run is between two items
abbrev pub invariant-loop-item : goal.invariant-loop-item
invariant-loop-item g l =
    let rest = walked l.item-iterator.opened.now l.item-iterator.changes.now l.item-iterator.frames.now in
    record {
      fits : BlockFits l.state rest;
      halfway : Halfway g.L.Look.answers l.fn.look l.look l.frames_shown (numbers_of l.block.frames.now)
          (shown l.frames_shown (block_run l.before (items_in l.block))) l.findings.items l.state rest l.watch;
    }
