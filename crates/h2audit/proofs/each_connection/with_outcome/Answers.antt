use Rattle.h2audit.proofs.Flows.{told-at-once, told-kept}
use Rattle.h2audit.proofs.each_connection.with_outcome.Goals as goal
use Rattle.h2audit.proofs.each_connection.with_outcome.Goals.{in-None+in_ok-outcome-in-None, in-Some+in-Http2-1}
use Rattle.h2audit.proofs.each_connection.with_outcome.Goals.{in-Some+in-NotHttp2-1}

pub returns : goal.returns
returns c = λ credits made client server holds.
    let held = c.args.held in
    let o = c.match-made.outcome in
    elim c.match-made.branch [
      | in-Some+in-Http2-1 w ↦ told-at-once credits held o client server c.args.made made
          (rw w.outcome-is w.in-Some.is) holds
      | in-Some+in-NotHttp2-1 w ↦ told-at-once credits held o client server c.args.made made
          (rw w.outcome-is w.in-Some.is) holds
      | in-None+in_ok-outcome-in-None w ↦ told-kept credits held o client server
          (rw w.outcome-is w.in_ok-outcome-in-None.ensures) holds
    ]
