use Rattle.quiet_pass.proofs.WholeLemmas.{each-fits, whole-said}
use Rattle.quiet_pass.proofs.whole_streams.WholeStreams.say_change.Goals as goal

pub said_each-requires-clause-fits : goal.said_each-requires-clause-fits
said_each-requires-clause-fits c =
    let room = c.requires.room in
    rw c.as_slice.ensures.value (each-fits room.0 c.args.self.now.list.items room.1 room.2)

pub returns : goal.returns
returns c = λ frames_shown.
    let told = c.in_ok-list.ensures in
    rw (told.said, told.after, c.as_slice.ensures.value)
    (whole-said c.args.before.now c.args.step.now c.requires.alone frames_shown c.args.self.now.list.items
    c.args.found.now.items)
