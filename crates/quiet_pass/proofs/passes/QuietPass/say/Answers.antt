use Rattle.stream_credit.proofs.Words.{◌∙◌}
use Rattle.quiet_pass.proofs.RoomLemmas.{connection-kept, streams-kept}
use Rattle.quiet_pass.proofs.SaidLemmas.{never, said-plain}
use Rattle.quiet_pass.proofs.passes.QuietPass.say.Goals as goal

pub say_alone-requires-clause-room : goal.say_alone-requires-clause-room
say_alone-requires-clause-room c = connection-kept c.requires.room

pub entry_of-own-requires : goal.entry_of-own-requires
entry_of-own-requires c = streams-kept c.requires.room

pub entry_of-promised-requires : goal.entry_of-promised-requires
entry_of-promised-requires c = streams-kept c.requires.room

pub returns-then-branch : goal.returns-then-branch
returns-then-branch c =
    said-plain c.args.frames_shown c.entry_of-own.result c.entry_of-promised.result
    c.promised_by-other.result c.promised_by-other.ensures c.requires.range c.requires.plain
    c.entry_of-own.ensures.same c.entry_of-promised.ensures.same c.is_opening-opens.ensures
    c.in_ok-connection.ensures c.new-found.ensures.items c.in_ok-say_entry.ensures c.in_ok-say_entry-2.ensures
    c.in_ok-shows_stop.ensures.shown (λ on. never _ c.if-branch.true (c.in_ok-shows_stop.ensures.stops ∙ on))

pub returns : goal.returns
returns c =
    said-plain c.args.frames_shown c.entry_of-own.result c.entry_of-promised.result
    c.promised_by-other.result c.promised_by-other.ensures c.requires.range c.requires.plain
    c.entry_of-own.ensures.same c.entry_of-promised.ensures.same c.is_opening-opens.ensures
    c.in_ok-connection.ensures c.new-found.ensures.items c.in_ok-say_entry.ensures c.in_ok-say_entry-2.ensures
    c.in_ok-shows_stop.ensures.shown (λ on. c.in_ok-keep_after.ensures)
