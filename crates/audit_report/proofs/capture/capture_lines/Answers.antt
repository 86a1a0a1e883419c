use Rattle.std.proofs.Common.{subst}
use Rattle.std.proofs.lemmas.List.{take_all}
use Rattle.audit_report.proofs.Counting.{ok-all}
use Rattle.audit_report.specs.code.Packets.{HasCounted}
use Rattle.audit_report.proofs.capture.capture_lines.Goals as goal

pub returns : goal.returns
returns c =
    let packets = c.args.packets.now in
    let at = c.loop-packet in
    let all = subst (λ taken. HasCounted taken at.lines) (take_all at.packet-index packets c.loop-packet-test.false)
    at.invariant in
    ok-all _ c.finish.result (λ records are. c.finish.ensures packets records all are)
