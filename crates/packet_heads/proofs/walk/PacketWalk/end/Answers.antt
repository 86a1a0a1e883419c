use Rattle.std.proofs.Common.{subst}
use Rattle.pcap_records.specs.code.Walk.{AreAll}
use Rattle.packet_heads.specs.code.Walk.{HasDecoded}
use Rattle.packet_heads.proofs.Walking.{has_met}
use Rattle.packet_heads.proofs.walk.PacketWalk.end.Goals as goal

pub returns-clause-met : goal.returns-clause-met
returns-clause-met g c = λ capture has.
    let after = g.V.PacketVisitor.after in
    let walk = c.args.self in
    let cut = c.cut-cut.result in
    let all = subst (λ stage. AreAll (HasDecoded after) walk.records stage.count cut) c.visitor.ensures
    c.cut-cut.ensures in
    rw c.into_visitor-visitor.ensures (has_met after capture walk cut has (c.in_default.ensures.short capture has) all)
