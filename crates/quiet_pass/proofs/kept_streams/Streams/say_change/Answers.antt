use Rattle.stream_credit.proofs.Words.{sym, ◌∙◌}
use Rattle.quiet_pass.proofs.ChangeLemmas.{change-said, said-behind}
use Rattle.quiet_pass.proofs.ShiftLemmas.{none-of}
use Rattle.quiet_pass.proofs.kept_streams.Streams.say_change.Goals as goal

pub say_all-requires-clause-own : goal.say_all-requires-clause-own
say_all-requires-clause-own c =
    (1, rw (c.in_ok-opened.ensures, c.as_slice.ensures.value) c.requires.kept.1.rows.opened_odd)

pub say_all-requires-2-clause-own : goal.say_all-requires-2-clause-own
say_all-requires-2-clause-own c =
    (0, rw (c.in_ok-promised.ensures, c.as_slice-2.ensures.value) c.requires.kept.1.rows.promised_even)

pub returns-clause-said : goal.returns-clause-said
returns-clause-said c =
    let none = none-of c.args.self.now.shifted (sym c.is_some.ensures ∙ c.if-is_some.false) in
    let odd = rw (c.in_ok-opened.ensures, c.as_slice.ensures.value, c.new-own.ensures.items) at c.in_ok-odd.ensures in
    let even = rw (c.in_ok-promised.ensures, c.as_slice-2.ensures.value) at c.in_ok-even.ensures in
    said-behind c.args.found.now.items
    (change-said c.args.frames_shown c.args.initial.now c.args.step.now c.requires.alone none none odd even
    c.if-not-odd-even.false)
    c.in_ok-append.ensures.items
