use Rattle.std.proofs.Common.{◌≡◌, ◌+◌, ◌<◌, ◌^◌, arith, length, refl}
use Rattle.std.proofs.lemmas.List.Elements.{recursion_from_All}
use Rattle.h2_frames.proofs.Words.{Arrival}
use Rattle.h2_frames.proofs.Sending.{all_read, frame_arrives, none_read, one_read}
use Rattle.h2_frames.proofs.side_frames.sent_frames.Goals as goal

pub loop-spelled-init : goal.loop-spelled-init
loop-spelled-init c = rw c.new-frames.ensures.items
    (none_read c.args.side c.args.arrivals.now c.args.offset c.args.bytes.now c.requires.rises
    (recursion_from_All (λ (a : Arrival). a.nanos < 2 ^ 63) c.args.arrivals.now c.requires.timely))

pub bounds-to_come-0 : goal.bounds-to_come-0
bounds-to_come-0 c =
    let at = c.loop-spelled in
    let found = c.in-Some.ensures.found in
    let there = frame_arrives c.args.side c.args.arrivals.now c.args.offset c.args.bytes.now at.frames.items at.upto
    at.rest.now at.to_come.now at.invariant c.in-Some.spelled found.0 found.1 c.in-Some.later.now found.2 found.3 _ refl
    in grind (arith, there.1, c.arrivals_from-to_come.ensures)

pub loop-spelled-preserved : goal.loop-spelled-preserved
loop-spelled-preserved c =
    let at = c.loop-spelled in
    let found = c.in-Some.ensures.found in
    let ranges = c.in-Some.ensures.ranges in
    let count : c.len.result ≡ length at.frames.items = omega (arith, c.len.ensures, at.frames.ok.0) in
    rw (c.in_ok-push.ensures.items, c.brought-frame.ensures, c.arrivals_from-to_come.ensures, count)
    (one_read c.args.side c.args.arrivals.now c.args.offset c.args.bytes.now at.frames.items at.upto at.rest.now
    at.to_come.now at.invariant c.requires.short c.in-Some.spelled found.0 found.1 c.in-Some.later.now found.2 found.3
    ranges.0 ranges.1 (at.upto + (9 + c.in-Some.spelled.header.length)) refl
    (record { upto = 0; rec = 0; nanos = 0 }))

pub returns : goal.returns
returns c =
    let at = c.loop-spelled in
    all_read c.args.side c.args.arrivals.now c.args.offset c.args.bytes.now at.frames.items at.upto at.rest.now
    at.to_come.now at.invariant c.in_default.ensures.none _ refl refl
