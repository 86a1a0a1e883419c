use Rattle.std.proofs.Common.{arith, ◌-◌}
use Rattle.audit_report.proofs.Counting.{in-front}
use Rattle.audit_report.specs.code.Packets.{counts_line}
use Rattle.audit_report.proofs.capture.push_capture_line_in_front.Goals as goal

pub returns : goal.returns
returns c =
    let old = c.args.out.now in
    let now = c.push_capture_line.new.out in
    let same = c.as_mut_slice.ensures.value in
    let size = c.len.ensures in
    in-front old.items (counts_line c.args.count c.args.tally.now) now.items c.rotate_right.new.self c.len-told.result
    now.len (c.len.result - c.len-told.result) c.in_ok-push_capture_line.ensures
    (omega (arith, c.len-told.ensures, old.ok.0)) (omega (arith, now.ok.0)) (omega (arith, size))
    (rw same at c.rotate_right.ensures.after) (rw same at c.rotate_right.ensures.len)
