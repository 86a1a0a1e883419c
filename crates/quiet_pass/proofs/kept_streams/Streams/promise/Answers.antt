use Rattle.stream_credit.proofs.Words.{◌≡◌, ◌∙◌, arith, sym}
use Rattle.std.proofs.Common.{◌%◌}
use Rattle.quiet_pass.proofs.ShiftLemmas.{none-of}
use Rattle.quiet_pass.proofs.StreamLemmas.{met-promise, rows-of}
use Rattle.quiet_pass.proofs.kept_streams.Streams.promise.Goals as goal

pub returns-clause-quiet : goal.returns-clause-quiet
returns-clause-quiet c = λ streams h.
    let old = c.args.self.now in
    let none = none-of old.shifted (sym c.is_some.ensures ∙ c.if-is_some.false) in
    let odd : c.args.frame.now.stream % 2 ≡ 1 = omega (arith, c.if-frame-eq0.false) in
    met-promise c.args.initial.now c.args.frame.now old _ streams (rows-of streams old none h) none c.requires.range
    c.requires.promised odd
    (λ rising. c.if-not-meet_opened.ensures.quiet rising c.args.initial.now)
    (λ rising. rw (c.in_ok-push.ensures.items, ← c.promised-promised.ensures)
    ((rw c.as_slice.ensures.value at (c.new_row.ensures c.in-Some.row c.in-Some.is)) rising))
