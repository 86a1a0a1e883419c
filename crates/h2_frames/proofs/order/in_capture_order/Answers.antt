use Rattle.std.proofs.Common.{◌∙◌, arith, sym}
use Rattle.std.proofs.lemmas.List.{append-nil}
use Rattle.h2_frames.proofs.Merging.{none_merged, one_merged}
use Rattle.h2_frames.proofs.order.in_capture_order.Goals as goal

pub loop-first-init : goal.loop-first-init
loop-first-init c = rw c.in_ok-frames.ensures.items
    (none_merged c.args.client.now c.args.server.now c.requires.client c.requires.server)

pub loop-first-preserved : goal.loop-first-preserved
loop-first-preserved c = rw (c.in_ok-push.ensures.items, c.numbered.ensures)
    (one_merged c.args.client.now c.args.server.now c.loop-first.frames.items c.loop-first.sent.now
    c.loop-first.answered.now c.requires.few c.loop-first.invariant c.in-Some.first c.in-Some.later_sent.now
    c.in-Some.later_answered.now c.in-Some.ensures.first c.in-Some.ensures.size _
    (omega (arith, c.len.ensures, c.loop-first.frames.ok.0)))

pub returns-clause-all : goal.returns-clause-all
returns-clause-all c =
    let none = c.in_default.ensures.none in
    sym ((rw (none.0, none.1) at c.loop-first.invariant.all) ∙ append-nil c.loop-first.frames.items)
