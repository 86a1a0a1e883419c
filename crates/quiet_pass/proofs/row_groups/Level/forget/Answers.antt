use Rattle.std.specs.Option.{option_map_or}
use Rattle.stream_credit.proofs.Words.{Bool, Option, Sides, ap, arith, false, refl, sym, ◌∙◌, ◌≡◌, ◌≤◌, ℕ}
use Rattle.stream_credit.proofs.Words.{List, [], length, slice_get, ◌++◌, ◌∷◌}
use Rattle.std.specs.Vec.{with_item}
use Rattle.std.proofs.lemmas.Option.{slice_get_past}
use Rattle.std.proofs.Common.{◌/◌}
use Rattle.quiet_pass.proofs.GroupLemmas.{forgotten, push-elsewhere, push-here, set-elsewhere, set-here}
use Rattle.quiet_pass.specs.code.Shifts.{are_within}
use Rattle.quiet_pass.specs.declared.shift_ranges.QuietShifts.{QuietShifts}
use Rattle.quiet_pass.proofs.row_groups.Level.forget.Goals as goal

-- these shifts are among those of a group, if it has some
abbrev among : Option QuietShifts → Sides ℕ → Bool
among quiet shift = option_map_or (λ (quiet : QuietShifts). are_within quiet shift) quiet false

pub returns-then-group-len : goal.returns-then-group-len
returns-then-group-len c =
    let level = c.args.self.now in
    let group = c.args.at / level.width in
    forgotten level (record { width = level.width; known = with_item level.known group c.none.result }) c.args.at refl
    (λ shift.
    ap (λ (quiet : Option QuietShifts). among quiet shift)
    (set-here level.known.items group c.none.result (omega (arith, c.if-group-len.true, c.len.ensures)))
    ∙ c.none.ensures shift)
    (λ other shift apart.
    ap (λ (quiet : Option QuietShifts). among quiet shift)
    (set-elsewhere level.known.items group other c.none.result apart))

pub returns-in_ok-push : goal.returns-in_ok-push
returns-in_ok-push c =
    let level = c.args.self.now in
    let none = c.none-then-group-len-2.result in
    let end : c.args.at / level.width ≡ length level.known.items =
    omega (arith, c.if-group-len-2.true, c.len-else-group-len.ensures, level.known.ok.0) in
    forgotten level (record { width = level.width; known = c.push.new.self }) c.args.at refl
    (λ shift.
    ap (λ (quiet : Option QuietShifts). among quiet shift)
    (ap (λ (items : List QuietShifts). slice_get items (c.args.at / level.width)) c.in_ok-push.ensures.items
    ∙ ap (slice_get (level.known.items ++ none ∷ [])) end ∙ push-here level.known.items none)
    ∙ c.none-then-group-len-2.ensures shift)
    (λ other shift apart.
    ap (λ (quiet : Option QuietShifts). among quiet shift)
    (ap (λ (items : List QuietShifts). slice_get items other) c.in_ok-push.ensures.items
    ∙ push-elsewhere level.known.items other none (λ e. apart (e ∙ sym end))))

pub returns-else-group-len-2 : goal.returns-else-group-len-2
returns-else-group-len-2 c =
    let level = c.args.self.now in
    let past : length level.known.items ≤ c.args.at / level.width =
    omega (arith, c.if-group-len.false, c.len.ensures) in
    forgotten level level c.args.at refl
    (λ shift.
    ap (λ (quiet : Option QuietShifts). among quiet shift)
    (slice_get_past level.known.items (c.args.at / level.width) past))
    (λ other shift apart. refl)
