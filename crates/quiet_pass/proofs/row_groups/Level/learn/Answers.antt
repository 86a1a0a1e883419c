use Rattle.std.specs.Option.{option_map_or}
use Rattle.stream_credit.proofs.Words.{Option, Sides, Bool, ap, arith, false, refl, ℕ}
use Rattle.std.specs.Vec.{with_item}
use Rattle.quiet_pass.proofs.GroupLemmas.{learned, set-elsewhere, set-here}
use Rattle.quiet_pass.specs.code.Shifts.{are_within}
use Rattle.quiet_pass.specs.declared.shift_ranges.QuietShifts.{QuietShifts}
use Rattle.quiet_pass.proofs.row_groups.Level.learn.Goals as goal

abbrev among : Option QuietShifts → Sides ℕ → Bool
among quiet shift = option_map_or (λ (quiet : QuietShifts). are_within quiet shift) quiet false

pub returns-then-group-len-clause-covered : goal.returns-then-group-len-clause-covered
returns-then-group-len-clause-covered c =
    let level = c.args.self.now in
    learned level (record { width = level.width; known = with_item level.known c.args.group c.args.quiet })
    c.args.group c.args.quiet refl
    (λ shift.
    ap (λ (quiet : Option QuietShifts). among quiet shift)
    (set-here level.known.items c.args.group c.args.quiet (omega (arith, c.if-group-len.true, c.len.ensures))))
    (λ other shift apart.
    ap (λ (quiet : Option QuietShifts). among quiet shift)
    (set-elsewhere level.known.items c.args.group other c.args.quiet apart))
