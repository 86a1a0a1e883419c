use Rattle.std.proofs.lemmas.Result.{IfOk-weaker}
use Rattle.audit_terms.specs.declared.sides.Side.TheVariants.{Client, Server}
use Rattle.tcp_streams.specs.code.Flows.{last_of}
use Rattle.tcp_streams.specs.code.SentFlows.{initial_sent}
use Rattle.tcp_streams.specs.code.Side.{segments_among}
use Rattle.tcp_streams.specs.code.Taken.{sent_by}
use Rattle.h2audit.proofs.Flows.{gap-at-end}
use Rattle.h2audit.proofs.found_connections.told_of.Goals as goal

pub into_visitor-requires : goal.into_visitor-requires
into_visitor-requires g c =
    let (capture, packets, opening, is) = c.requires in (opening, is.sent, last_of 0 is.sent, is.visited)

pub finish-requires : goal.finish-requires
finish-requires g c =
    let (capture, packets, opening, is) = c.requires in
    let last = last_of 0 is.sent in
    (opening, is.sent, last, c.in_ok-findings.ensures opening is.sent last is.visited)

pub told_of_found-requires : goal.told_of_found-requires
told_of_found-requires g c =
    let (capture, packets, opening, is) = c.requires in
    let last = last_of 0 is.sent in
    let has = c.in_ok-findings.ensures opening is.sent last is.visited in
    let (flows, both) = c.in_ok-found.ensures.flows opening is.sent last has capture is.stand in (
      g.S.Showing.frames_shown,
      flows.client,
      flows.server,
      c.in_ok-found.ensures.found opening is.sent last has capture flows.client flows.server is.stand both,
    )

pub returns : goal.returns
returns g c = λ capture packets opening numbered is.
    let last = last_of 0 is.sent in
    let law = c.flows_are_those_sent.ensures in
    let has = c.in_ok-findings.ensures opening is.sent last is.visited in
    let (flows, both) = c.in_ok-found.ensures.flows opening is.sent last has capture is.stand in
    let found = c.in_ok-found.ensures.found opening is.sent last has capture flows.client flows.server is.stand both in
    let client_gap = gap-at-end (initial_sent opening is.sent Client) capture
    (segments_among (sent_by opening.from Client is.sent)) flows.client both.client_is in
    let server_gap = gap-at-end (initial_sent opening is.sent Server) capture
    (segments_among (sent_by opening.from Server is.sent)) flows.server both.server_is in
    IfOk-weaker c.told_of_found.result _ _ (λ told whole. record {
      told_of = record {
        flows = λ connection of.
            let client = law capture packets connection opening is.sent Client flows.client numbered of is.are in
            let server = law capture packets connection opening is.sent Server flows.server numbered of is.are in
            record {
              flows = flows;
              client = client.1 both.client_is;
              server = server.1 both.server_is;
              told = whole.flows;
            };
      };
      whole = whole.whole;
    }) (c.told_of_found.ensures g.S.Showing.frames_shown flows.client flows.server found client_gap server_gap)
