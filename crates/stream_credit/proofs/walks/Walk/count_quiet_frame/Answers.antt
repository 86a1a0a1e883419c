use Rattle.stream_credit.proofs.{QuietLemmas.quiet-counted, WalkLemmas.room-wide}
use Rattle.stream_credit.proofs.Words.{Client, Server, OnTrue_at, OnTrue_from, refl, sym, ◌∙◌}
use Rattle.stream_credit.proofs.walks.Walk.count_quiet_frame.Goals as goal

pub move_quietly-requires-clause-client : goal.move_quietly-requires-clause-client
move_quietly-requires-clause-client c =
    room-wide c.args.frame.now.number c.args.self.now.entry c.requires.numbered c.requires.room Client

pub move_quietly-requires-clause-server : goal.move_quietly-requires-clause-server
move_quietly-requires-clause-server c =
    room-wide c.args.frame.now.number c.args.self.now.entry c.requires.numbered c.requires.room Server

pub returns-clause-counted : goal.returns-clause-counted
returns-clause-counted c =
    OnTrue_from c.move_quietly.result _ (λ moved.
    quiet-counted c.args.self.now c.args.frame.now c.args.change.now c.in-Some.one c.move_quietly.new.windows
    c.if-self.false (sym c.is_some.ensures ∙ c.if-is_some.false) c.requires.room
    (c.in-Some.ensures c.in-Some.one refl) (OnTrue_at moved c.move_quietly.ensures.moved))
