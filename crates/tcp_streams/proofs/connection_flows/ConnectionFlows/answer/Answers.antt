use Rattle.std.proofs.Common.{subst}
use Rattle.tcp_streams.proofs.Words.{◌++◌, sym}
use Rattle.tcp_streams.specs.code.{Taken.AreTaken}
use Rattle.tcp_streams.proofs.{Waits.server-begun}
use Rattle.tcp_streams.proofs.connection_flows.ConnectionFlows.answer.Goals as goal

pub replay-requires : goal.replay-requires
replay-requires g c =
    let (opening, sent, last, h) = c.requires.next in (
      h.taken,
      h.low,
      h.waiting,
      server-begun g.V.GrowthVisitor.after h.taken h.waiting h.low c.args.self.now.both c.new.result h.are_taken
          c.requires.unknown h.waits c.new.ensures.stage c.new.ensures.side,
      h.are_waiting,
      h.follow,
    )

pub returns-clause-taken : goal.returns-clause-taken
returns-clause-taken g c = λ opening sent last h.
    let after = g.V.GrowthVisitor.after in
    let begun = server-begun after h.taken h.waiting h.low c.args.self.now.both c.new.result h.are_taken
    c.requires.unknown h.waits c.new.ensures.stage c.new.ensures.side in
    let now = c.in_ok-replay.ensures.taken h.taken h.low h.waiting begun h.are_waiting h.follow in
    subst (λ l. AreTaken after l last c.replay.new.both) (sym h.split)
    (subst (λ n. AreTaken after (h.taken ++ h.waiting) n c.replay.new.both) h.last_is now)
