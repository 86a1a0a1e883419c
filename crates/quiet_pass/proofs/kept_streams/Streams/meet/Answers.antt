use Rattle.stream_credit.proofs.Words.{◌≡◌, ◌∙◌, refl, sym, arith}
use Rattle.std.proofs.Common.{◌%◌}
use Rattle.quiet_pass.proofs.ShiftLemmas.{none-of}
use Rattle.quiet_pass.proofs.StreamLemmas.{met-odd, met-even, rows-of}
use Rattle.quiet_pass.proofs.kept_streams.Streams.meet.Goals as goal

pub returns-then-frame-eq1-clause-quiet : goal.returns-then-frame-eq1-clause-quiet
returns-then-frame-eq1-clause-quiet c = λ quiet initial streams h.
    let old = c.args.self.now in
    let none = none-of old.shifted (sym c.is_some.ensures ∙ c.if-is_some.false) in
    met-odd initial c.args.frame.now _ old _ streams (rows-of streams old none h) none c.requires.range.stream
    c.requires.unpromised c.if-frame-eq1.true (λ rising. c.meet_on.ensures.quiet quiet rising initial) refl

pub returns-else-frame-eq1-clause-quiet : goal.returns-else-frame-eq1-clause-quiet
returns-else-frame-eq1-clause-quiet c = λ quiet initial streams h.
    let old = c.args.self.now in
    let none = none-of old.shifted (sym c.is_some.ensures ∙ c.if-is_some.false) in
    let even : c.args.frame.now.stream % 2 ≡ 0 = omega (arith, c.if-frame-eq1.false) in
    met-even initial c.args.frame.now _ old _ streams (rows-of streams old none h) none c.requires.range.stream
    c.requires.unpromised even c.requires.streamed
    (λ rising. c.meet_on-else-frame-eq1.ensures.quiet quiet rising initial) refl
