use Rattle.stream_credit.proofs.Words.{◌≡◌, ◌∙◌, refl, sym, arith, IfOk-weaker, OnTrue_at, OnTrue_from}
use Rattle.std.proofs.Common.{◌%◌}
use Rattle.quiet_pass.proofs.ShiftLemmas.{none-of}
use Rattle.quiet_pass.proofs.StreamLemmas.{met-odd, rows-of}
use Rattle.quiet_pass.proofs.kept_streams.Streams.open.Goals as goal

pub returns-clause-quiet : goal.returns-clause-quiet
returns-clause-quiet c =
    let old = c.args.self.now in
    let none = none-of old.shifted (sym c.is_some.ensures ∙ c.if-is_some.false) in
    let odd : c.args.frame.now.stream % 2 ≡ 1 = omega (arith, c.if-frame-eq0.false) in
    IfOk-weaker c.open.result _ _
    (λ opened h. OnTrue_from opened _ (λ e. λ streams k.
    met-odd c.args.initial.now c.args.frame.now _ old _ streams (rows-of streams old none k) none
    c.requires.range.stream c.requires.unpromised odd (OnTrue_at e h) refl))
    c.open.ensures.quiet
