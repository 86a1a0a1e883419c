use Rattle.std.proofs.Common.{◌∙◌, ap, sym}
use Rattle.std.specs.Prelude.{is_some}
use Rattle.h2_frames.proofs.Handing.{one-flow, one-server, started-is}
use Rattle.h2_frames.proofs.Words.{Client}
use Rattle.h2_frames.specs.code.Connection.{HasTaken}
use Rattle.tcp_streams.specs.code.Flows.{server_number}
use Rattle.h2_frames.proofs.connection_frames.ConnectionFrames.finish.Goals as goal

pub finish-requires : goal.finish-requires
finish-requires g c = c.requires

pub finish-visitor-requires : goal.finish-visitor-requires
finish-visitor-requires g c =
    let (opening, sent, last, has) = c.requires in
    let all = c.in_ok-handed.ensures.handed opening sent last has in (all.grown, all.visited)

pub returns-clause-handed : goal.returns-clause-handed
returns-clause-handed g c = λ opening sent last has capture client server sent-in flows.
    let after = HasTaken g.V.FrameVisitor.after in
    let unique = c.flow_is_unique.ensures in
    let handed = c.in_ok-handed.handed in
    let all = c.in_ok-handed.ensures.handed opening sent last has in
    let number = server_number opening.from sent in
    let asked = one-flow after unique capture opening.from sent sent-in all.grown client handed.client Client
    opening.seq all.client_flow flows.client_is in
    let answered = one-server after unique capture opening.from sent sent-in all.grown server handed.server number
    all.server_flow flows.server_is in
    let started = started-is after unique capture opening.from sent sent-in all.grown server handed.server number
    flows.server_is in record {
      ending = c.finish-visitor.ensures all.grown client server all.visited asked.grown_is answered.grown_is
          (started ∙ ap is_some (sym all.server_number_is) ∙ sym c.is_some-started.ensures);
      client_end = asked.ends;
      server_end = answered.ends;
    }

pub returns-clause-flows : goal.returns-clause-flows
returns-clause-flows g c = c.in_ok-handed.ensures.flows
