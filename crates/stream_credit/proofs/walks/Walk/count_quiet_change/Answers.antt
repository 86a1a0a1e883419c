use Rattle.stream_credit.proofs.{QuietSteps.change-counted, WalkLemmas.room-next, WalkLemmas.room-wide}
use Rattle.stream_credit.proofs.Words.{Client, Server, sym, ◌∙◌}
use Rattle.stream_credit.proofs.walks.Walk.count_quiet_change.Goals as goal

pub window_after_change-next_client-requires : goal.window_after_change-next_client-requires
window_after_change-next_client-requires c =
    room-wide c.args.step.now.number c.args.self.now.entry c.requires.numbered c.requires.room Client

pub window_after_change-next_server-requires : goal.window_after_change-next_server-requires
window_after_change-next_server-requires c =
    room-wide c.args.step.now.number c.args.self.now.entry c.requires.numbered c.requires.room Server

pub returns-clause-counted : goal.returns-clause-counted
returns-clause-counted c =
    let step = c.args.step.now in
    change-counted c.args.self.now step.number step.frame step.change c.initial_after-initial.result _
    c.if-self.false (sym c.is_some.ensures ∙ c.if-is_some.false) c.initial_after-initial.ensures
    c.window_after_change-next_client.ensures.moved c.window_after_change-next_server.ensures.moved
    c.if-not-is_quiet_move.ensures
    c.if-not-is_quiet_move-2.ensures
    (room-next step.number
    (record {
      life = c.args.self.now.entry.life;
      window = record {
        client = c.window_after_change-next_client.result;
        server = c.window_after_change-next_server.result;
      };
    }) (c.window_after_change-next_client.ensures.room _ (c.requires.room Client))
    (c.window_after_change-next_server.ensures.room _ (c.requires.room Server)))
