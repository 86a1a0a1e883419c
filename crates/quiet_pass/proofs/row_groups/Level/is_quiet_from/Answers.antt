use Rattle.stream_credit.proofs.Words.{◌<◌, OnTrue_from, arith, sym, ◌∙◌}
use Rattle.quiet_pass.proofs.GroupLemmas.{quiet-from}
use Rattle.quiet_pass.proofs.row_groups.Level.is_quiet_from.Goals as goal

pub returns-then-knows : goal.returns-then-knows
returns-then-knows c =
    let level = c.args.self.now in
    let some : 0 < level.width = omega (arith, c.if-self-eq0.false) in
    OnTrue_from c.knows-then-knows.result _ (λ known frames_shown rows.
    quiet-from frames_shown level rows c.args.at c.args.shift.now c.args.next.now some c.if-at-self-ne0.false
    (sym c.knows.ensures ∙ c.if-knows.true) (sym c.knows-then-knows.ensures ∙ known))
