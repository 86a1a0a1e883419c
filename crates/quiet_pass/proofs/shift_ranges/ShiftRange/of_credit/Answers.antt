use mir.Val.{of_z, to_z}
use Rattle.std.proofs.Common.{SFits, w64}
use Rattle.std.proofs.lemmas.Int.{to_z-of_z}
use Rattle.stream_credit.proofs.Words.{Some, false, pos, subst, sym, ℤ}
use Rattle.quiet_pass.proofs.ShiftLemmas.{quiet-left, quiet-used_up}
use Rattle.quiet_pass.specs.code.Shifts.{IsWindowQuietFor}
use Rattle.quiet_pass.proofs.shift_ranges.ShiftRange.of_credit.Goals as goal

pub returns-then-is_used_up : goal.returns-then-is_used_up
returns-then-is_used_up c =
    let same = to_z-of_z w64 c.args.credit c.ranges.credit in
    let most = c.less.result in
    let fits : SFits w64 most = record { sfits = c.less.type_inv } in
    subst (λ (n : ℤ). IsWindowQuietFor false (record { least = pos 0; most = n }) (Some c.args.credit))
    (sym (to_z-of_z w64 most fits))
    (quiet-used_up (record { least = pos 0; most = most }) c.args.credit (rw same at c.less.ensures))

pub returns : goal.returns
returns c =
    let same = to_z-of_z w64 c.args.credit c.ranges.credit in
    let least = c.less-2.result in
    let most = c.less-3.result in
    let one : SFits w64 least = record { sfits = c.less-2.type_inv } in
    let other : SFits w64 most = record { sfits = c.less-3.type_inv } in
    subst (λ (n : ℤ). IsWindowQuietFor false (record { least = n; most = to_z w64 (of_z w64 most) })
    (Some c.args.credit))
    (sym (to_z-of_z w64 least one))
    (subst (λ (n : ℤ). IsWindowQuietFor false (record { least = least; most = n }) (Some c.args.credit))
    (sym (to_z-of_z w64 most other))
    (quiet-left (record { least = least; most = most }) c.args.credit (rw same at c.less-2.ensures)
    (rw same at c.less-3.ensures)))
