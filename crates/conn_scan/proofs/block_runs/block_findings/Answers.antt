use Rattle.conn_scan.proofs.Terms.{◌≡◌, ◌^◌, None, arith, refl, items_in, room-wider, walked}
use Rattle.conn_scan.proofs.WalkLemmas.{block_walked}
use Rattle.conn_scan.proofs.Halfway.{begins, fits_next, goes, stops, stops-numbered, is-whole}
use Rattle.conn_scan.proofs.block_runs.block_findings.Goals as goal

pub loop-item-init : goal.loop-item-init
loop-item-init g c =
    let walk = c.into_iter-item-iterator.result in
    let all : walked walk.opened.now walk.changes.now walk.frames.now ≡ items_in c.args.block.now =
    rw (c.into_iter-item-iterator.ensures.into_iter_gives, c.items-item-items.ensures)
    (block_walked c.args.block.now c.requires.block) in
    rw (all, c.new-findings.ensures.items) (record {
      fits = c.requires.fits;
      halfway = begins g.L.Look.answers c.args.look.now c.args.frames_shown c.args.block.now c.begin-watch.new.look
          c.args.before.now c.begin-watch.result c.requires.block c.begin-watch.ensures;
    })

pub returns-then-not-goes_on-clause-run : goal.returns-then-not-goes_on-clause-run
returns-then-not-goes_on-clause-run g c =
    stops (rw c.in-Some.ensures.steps at c.loop-item.invariant.halfway)
    c.goes_on.new.look c.keep_up_to.new.found.items c.goes_on.new.watch
    (rw c.as_slice.ensures.value at c.if-not-goes_on.ensures) c.keep_up_to.ensures

pub returns-then-not-goes_on-clause-numbered : goal.returns-then-not-goes_on-clause-numbered
returns-then-not-goes_on-clause-numbered g c =
    stops-numbered c.loop-item.invariant.halfway c.keep_up_to.new.found.items c.goes_on.new.watch.stop
    c.keep_up_to.ensures

pub add_item-requires-clause-room : goal.add_item-requires-clause-room
add_item-requires-clause-room g c =
    let fits = c.loop-item.invariant.fits in
    (room-wider _ (2 ^ 60) _ (omega arith) fits.client, room-wider _ (2 ^ 60) _ (omega arith) fits.server)

pub loop-item-preserved : goal.loop-item-preserved
loop-item-preserved g c =
    let meets = c.in_ok-add_item.ensures in
    record {
      fits = fits_next _ _ _ _ (rw c.in-Some.ensures.steps at c.loop-item.invariant.fits) meets.little;
      halfway = goes (rw c.in-Some.ensures.steps at c.loop-item.invariant.halfway)
          c.goes_on.new.look c.add_item.new.state c.add_item.new.found.items c.goes_on.new.watch
          (rw c.as_slice.ensures.value at c.if-not-goes_on.ensures) meets.after meets.found;
    }

pub returns-clause-run : goal.returns-clause-run
returns-clause-run g c = is-whole (rw c.in-None.ensures.steps.0 at c.loop-item.invariant.halfway)

pub returns-clause-numbered : goal.returns-clause-numbered
returns-clause-numbered g c = stops-numbered c.loop-item.invariant.halfway _ None refl

pub add_item-requires-clause-frame : goal.add_item-requires-clause-frame
add_item-requires-clause-frame g c = (rw c.in-Some.ensures.steps at c.loop-item.invariant.halfway).orderly.1
