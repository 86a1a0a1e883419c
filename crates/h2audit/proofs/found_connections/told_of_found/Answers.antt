use Rattle.h2audit.proofs.Flows.{found-in-time}
use Rattle.h2audit.proofs.MetAudits.{KeepsMet, keeps-http2, told-whole}
use Rattle.h2audit.proofs.found_connections.told_of_found.Goals as goal
use Rattle.h2audit.proofs.found_connections.told_of_found.Goals.{in-Http2+in_ok-outcome-in-Http2, in-NoHandshake}
use Rattle.h2audit.proofs.found_connections.told_of_found.Goals.{in-NoPreface, in-NotHttp2}

pub outcome_found-requires : goal.outcome_found-requires
outcome_found-requires c =
    let (credits, client, server, are) = c.requires in
    rw c.in-Http2.is (found-in-time credits client server c.in-Http2.found (rw c.in-Http2.is at are.cut))

pub returns : goal.returns
returns c = λ credits client server are client_gap server_gap.
    let keeps : KeepsMet c.match-found.outcome c.args.found.cut =
    elim c.match-found.branch [
      | in-Http2+in_ok-outcome-in-Http2 w ↦ keeps-http2 c.match-found.outcome w.in_ok-outcome-in-Http2.outcome
          c.args.found.cut w.in-Http2.found w.in-Http2.is w.outcome-is
          (rw w.in-Http2.is at w.in_ok-outcome-in-Http2.ensures)
      | in-NotHttp2 w ↦ rw w.in-NotHttp2.is w.outcome-is
      | in-NoPreface w ↦ rw w.in-NoPreface.is w.outcome-is
      | in-NoHandshake w ↦ rw w.in-NoHandshake.is w.outcome-is
    ] in
    told-whole credits client server c.of_ends-reach.result c.match-found.outcome c.args.found.cut keeps are.cut
    (c.of_ends-reach.ensures client server are.client_end are.server_end client_gap server_gap)
