use Rattle.std.proofs.Common.{ap, arith, length, ◌∙◌}
use Rattle.std.proofs.lemmas.List.{length-map}
use Rattle.std.proofs.lemmas.Result.{IfOk-weaker}
use Rattle.std.proofs.lemmas.Slice.Zip.{AllZip-long}
use Rattle.packet_heads.specs.code.Handed.{packets_among}
use Rattle.tcp_streams.specs.Membership.{belongings, openings}
use Rattle.h2audit.proofs.Flows.{told-orderly}
use Rattle.h2audit.proofs.MetAudits.{opened-told, report-behind}
use Rattle.h2audit.proofs.Opened.{openings-in}
use Rattle.h2audit.proofs.Openings.{all-whole, whole-told}
use Rattle.h2audit.proofs.ToldAudits.{found-audits, whole-found}
use Rattle.h2audit.specs.code.Met.{IsWholeOfOpening, heading_by}
use Rattle.h2audit.proofs.found_connections.report_of_found.Goals as goal

pub report_of-requires : goal.report_of-requires
report_of-requires g c =
    let (capture, met) = c.requires in
    let packets = packets_among met.handed in
    let os = openings (belongings packets) in
    let visited = c.into_parts-opened.ensures.opened capture met.handed met.visited.connections met.payloads in
    let told = c.in_ok-headings.ensures capture packets met.order.numbered visited in
    let items = c.in_ok-headings.told.items in
    let opened = opened-told c.in_ok-lines.lines g.S.Showing.frames_shown capture packets met.order.few os items
    (whole-told capture packets g.S.Showing.frames_shown os items told.each) in
    let headed = ap length told.headed in
    let long = length-map os heading_by in
    let each = AllZip-long (IsWholeOfOpening g.S.Showing.frames_shown capture packets) os items told.each in
    let few = openings-in packets in
    record {
      each = omega (arith, headed, long, each);
      orderly = told-orderly g.S.Showing.frames_shown capture packets opened.connections items opened.flows;
      numbers = omega (arith, headed, long, few, met.order.few);
    }

pub returns : goal.returns
returns g c = λ capture taken met.
    let packets = packets_among met.handed in
    let os = openings (belongings packets) in
    let visited = c.into_parts-opened.ensures.opened capture met.handed met.visited.connections met.payloads in
    let told = c.in_ok-headings.ensures capture packets met.order.numbered visited in
    let items = c.in_ok-headings.told.items in
    let opened = opened-told c.in_ok-lines.lines g.S.Showing.frames_shown capture packets met.order.few os items
    (whole-told capture packets g.S.Showing.frames_shown os items told.each) in
    let audits = found-audits g.S.Showing.frames_shown capture packets opened.connections items items opened.flows
    (whole-found g.S.Showing.frames_shown items
    (all-whole capture packets g.S.Showing.frames_shown os items told.each)) in
    IfOk-weaker c.report_of.result _ _ (λ r behind.
    report-behind capture packets c.args.cut g.S.Showing.frames_shown c.in_ok-lines.lines.items
    c.in_ok-headings.headings.items items r.0 r.1 opened.connections _ taken met.decided
    opened.opened (told.headed ∙ opened.headed)
    (c.into_parts-opened.ensures.strays met.handed met.visited.connections)
    (λ records are. c.in_ok-lines.ensures packets records met.visited.lines are) audits behind)
    (rw c.frames_shown.ensures at c.report_of.ensures)
