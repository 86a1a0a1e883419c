use Rattle.std.proofs.Common.{SFits, rules, w64}
use Rattle.std.proofs.lemmas.Int.{to_z-of_z}
use Rattle.stream_credit.proofs.Words.{Option, Some, subst, sym, ℤ}
use Rattle.quiet_pass.specs.code.Shifts.{IsWindowQuietFor}
use Rattle.quiet_pass.proofs.shift_ranges.ShiftRange.of.Goals as goal

pub returns-in-Some : goal.returns-in-Some
returns-in-Some c =
    let fits : SFits w64 c.in-Some.credit = search rules in
    subst (λ (window : Option ℤ). IsWindowQuietFor c.args.frames_shown c.of_live.result window) (sym c.in-Some.is)
    (subst (λ (credit : ℤ). IsWindowQuietFor c.args.frames_shown c.of_live.result (Some credit))
    (to_z-of_z w64 c.in-Some.credit fits)
    c.of_live.ensures)
