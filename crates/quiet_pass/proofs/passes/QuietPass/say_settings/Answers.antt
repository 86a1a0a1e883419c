use Rattle.stream_credit.proofs.Words.{◌∙◌}
use Rattle.quiet_pass.proofs.RoomLemmas.{connection-kept, streams-kept}
use Rattle.quiet_pass.proofs.SaidLemmas.{never}
use Rattle.quiet_pass.proofs.SettingsLemmas.{said-on-settings}
use Rattle.quiet_pass.proofs.passes.QuietPass.say_settings.Goals as goal

pub say_alone-requires-clause-room : goal.say_alone-requires-clause-room
say_alone-requires-clause-room c = connection-kept c.requires.room

pub say_change-requires-clause-room : goal.say_change-requires-clause-room
say_change-requires-clause-room c = streams-kept c.requires.room

pub returns-then-branch : goal.returns-then-branch
returns-then-branch c = λ before brought.
    said-on-settings c.requires.range c.requires.unmoved brought.brought brought.last brought.initial
    brought.connection brought.streams
    (rw c.new-found.ensures.items at c.in_ok-say_unmatched.ensures) c.in_ok-connection.ensures
    c.in_ok-say_change.ensures c.in_ok-shows_stop.ensures.shown
    (λ on. never _ c.if-branch.true (c.in_ok-shows_stop.ensures.stops ∙ on))

pub returns : goal.returns
returns c = λ before brought.
    said-on-settings c.requires.range c.requires.unmoved brought.brought brought.last brought.initial
    brought.connection brought.streams
    (rw c.new-found.ensures.items at c.in_ok-say_unmatched.ensures) c.in_ok-connection.ensures
    c.in_ok-say_change.ensures c.in_ok-shows_stop.ensures.shown
    (λ on. (c.keep_connection.ensures.kept, c.keep_connection.ensures.streams))
