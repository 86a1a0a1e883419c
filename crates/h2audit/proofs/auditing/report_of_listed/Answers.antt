use Rattle.std.proofs.Common.{ap, arith, length, ◌∙◌}
use Rattle.std.proofs.lemmas.List.{length-map}
use Rattle.std.proofs.lemmas.Result.{IfOk-weaker}
use Rattle.std.proofs.lemmas.Slice.Zip.{AllZip-long}
use Rattle.packet_heads.specs.code.Handed.{packets_among}
use Rattle.tcp_streams.specs.Membership.{belongings, openings}
use Rattle.h2audit.proofs.Flows.{told-orderly}
use Rattle.h2audit.proofs.MetAudits.{opened-told, report-behind}
use Rattle.h2audit.proofs.Opened.{openings-in}
use Rattle.h2audit.proofs.Openings.{all-held, held-told}
use Rattle.h2audit.proofs.ToldAudits.{all-fit, found-audits}
use Rattle.h2audit.specs.code.Flows.{IsToldHeld}
use Rattle.h2audit.specs.code.Listed.{IsHeldOfOpening}
use Rattle.h2audit.specs.code.Met.{heading_by}
use Rattle.h2audit.proofs.auditing.report_of_listed.Goals as goal

pub told_each-requires-clause-few : goal.told_each-requires-clause-few
told_each-requires-clause-few g c κs within =
    let (capture, met) = c.requires in
    let packets = packets_among met.handed in
    let os = openings (belongings packets) in
    let visited = c.into_parts-opened.ensures.opened capture met.handed met.visited.connections met.payloads in
    let held = c.in_ok-headings.ensures capture packets met.order.numbered visited in
    let items = c.in_ok-headings.held.items in
    let each = AllZip-long (IsHeldOfOpening capture packets) os items held.each in
    omega (arith, each, openings-in packets, met.order.few)

pub told_each-requires-clause-flows : goal.told_each-requires-clause-flows
told_each-requires-clause-flows g c κs within =
    let (capture, met) = c.requires in
    let packets = packets_among met.handed in
    let os = openings (belongings packets) in
    let visited = c.into_parts-opened.ensures.opened capture met.handed met.visited.connections met.payloads in
    let held = c.in_ok-headings.ensures capture packets met.order.numbered visited in
    let items = c.in_ok-headings.held.items in
    all-held capture packets c.in_ok-lines.lines met.order.few os items held.each

pub audit_each-requires-after_bounds : goal.audit_each-requires-after_bounds
audit_each-requires-after_bounds g c κs within =
    let credits = c.args.division.now.frames_shown in
    let (capture, met) = c.requires in
    let packets = packets_among met.handed in
    let os = openings (belongings packets) in
    let visited = c.into_parts-opened.ensures.opened capture met.handed met.visited.connections met.payloads in
    let held = c.in_ok-headings.ensures capture packets met.order.numbered visited in
    let made = c.in_ok-made.made.items in
    let opened = opened-told c.in_ok-lines.lines credits capture packets met.order.few os made
    (held-told capture packets credits os c.in_ok-headings.held.items made held.each c.in_ok-made.ensures) in
    told-orderly credits capture packets opened.connections made opened.flows

pub report_of-requires : goal.report_of-requires
report_of-requires g c =
    let credits = c.args.division.now.frames_shown in
    let (capture, met) = c.requires in
    let packets = packets_among met.handed in
    let os = openings (belongings packets) in
    let visited = c.into_parts-opened.ensures.opened capture met.handed met.visited.connections met.payloads in
    let held = c.in_ok-headings.ensures capture packets met.order.numbered visited in
    let items = c.in_ok-headings.held.items in
    let made = c.in_ok-made.made.items in
    let told = c.in_ok-told.told.items in
    let found = c.in_ok-told.ensures in
    let opened = opened-told c.in_ok-lines.lines credits capture packets met.order.few os made
    (held-told capture packets credits os items made held.each c.in_ok-made.ensures) in
    let fit = all-fit made found.found told
    (told-orderly credits capture packets opened.connections made opened.flows) found.put in
    let headed = ap length held.headed in
    let long = length-map os heading_by in
    let each = AllZip-long (IsHeldOfOpening capture packets) os items held.each in
    let more = AllZip-long (IsToldHeld credits) items made c.in_ok-made.ensures in
    record {
      each = omega (arith, headed, long, each, more, fit.0);
      orderly = fit.1;
      numbers = omega (arith, headed, long, openings-in packets, met.order.few);
    }

pub returns : goal.returns
returns g c = λ capture taken met.
    let credits = c.args.division.now.frames_shown in
    let packets = packets_among met.handed in
    let os = openings (belongings packets) in
    let visited = c.into_parts-opened.ensures.opened capture met.handed met.visited.connections met.payloads in
    let held = c.in_ok-headings.ensures capture packets met.order.numbered visited in
    let made = c.in_ok-made.made.items in
    let told = c.in_ok-told.told.items in
    let opened = opened-told c.in_ok-lines.lines credits capture packets met.order.few os made
    (held-told capture packets credits os c.in_ok-headings.held.items made held.each c.in_ok-made.ensures) in
    let audits = found-audits credits capture packets opened.connections made told opened.flows c.in_ok-told.ensures in
    IfOk-weaker c.report_of.result _ _ (λ r behind.
    report-behind capture packets c.args.cut credits c.in_ok-lines.lines.items c.in_ok-headings.headings.items told
    r.0 r.1 opened.connections _ taken met.decided opened.opened (held.headed ∙ opened.headed)
    (c.into_parts-opened.ensures.strays met.handed met.visited.connections)
    (λ records are. c.in_ok-lines.ensures packets records met.visited.lines are) audits behind) c.report_of.ensures
