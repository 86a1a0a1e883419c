-- Windows by a shift, and what a change of it shows.
use mathlib.Core.Bool.{beq}
use Rattle.std.proofs.Common.{int_le, ◌≤ℤ◌, ◌+ℤ◌, ◌-ℤ◌, sym}
use Rattle.stream_credit.proofs.Words.{◌≡◌, ℕ, ℤ, pos, ◌&&◌, ◌-◌, ◌^◌, Bool, true, false, None, Option, Some, refl}
use Rattle.stream_credit.proofs.Words.{arith, int_lt}
use Rattle.stream_credit.proofs.Words.{WindowHasRoom, ints, is_some, same_Some, IsQuietMove, Stream, is_used_up}
use Rattle.stream_credit.proofs.Words.{overflows}
use Rattle.quiet_pass.specs.code.Shifts.{IsEntryQuietFor, IsWindowQuietFor, is_within}
use Rattle.quiet_pass.specs.declared.shift_ranges.QuietShifts.{QuietShifts}
use Rattle.quiet_pass.specs.declared.shift_ranges.ShiftRange.{ShiftRange}

pub both-true : (a b : Bool) → (a && b) ≡ true → (a ≡ true) × (b ≡ true)
both-true true b h = (refl, h)
both-true false b h = cc

pub quiet-move : (a b : ℤ) → is_used_up a ≡ is_used_up b → overflows a b ≡ false → IsQuietMove (Some a) (Some b)
quiet-move a b level fits one p other q = rw (← same_Some a one p, ← same_Some b other q) (level, fits)

level : (a : ℤ) → overflows a a ≡ false
level a = let never : int_lt a a ≡ false = grind (arith, ints) in rw never refl

-- a window that stays as it is
pub window-quiet : (window : Option ℤ) → IsQuietMove window window
window-quiet None credit e next f = cc
window-quiet (Some a) credit e next f = quiet-move a a refl (level a) credit e next f

used-up : (a : ℤ) → a ≤ℤ pos 0 → is_used_up a ≡ true
used-up a h = grind (arith, ints)

left-over : (a : ℤ) → pos 1 ≤ℤ a → is_used_up a ≡ false
left-over a h = grind (arith, ints)

within-most : (a b : ℤ) → b ≤ℤ pos (2 ^ 31 - 1) → overflows a b ≡ false
within-most a b h = grind (arith, ints)

within-least : (range : ShiftRange) (shift : ℕ) → is_within range shift ≡ true
    → (range.least ≤ℤ pos shift) × (pos shift ≤ℤ range.most)
within-least range shift h =
    let parts = both-true (int_le range.least (pos shift)) (int_le (pos shift) range.most) h in
    (grind (arith, ints, parts.0), grind (arith, ints, parts.1))

pub quiet-none : (frames_shown : Bool) (range : ShiftRange) → IsWindowQuietFor frames_shown range None
quiet-none frames_shown range one other p q = record { quiet = λ credit e. cc; still = λ _. refl }

pub quiet-used_up : (range : ShiftRange) (credit : ℤ) → range.most ≡ pos 0 -ℤ credit
    → IsWindowQuietFor false range (Some credit)
quiet-used_up range credit most one other p q =
    let a = within-least range one p in
    let b = within-least range other q in
    let up : (credit +ℤ pos one) ≤ℤ pos 0 = omega (arith, ints, a.1, most) in
    let still : (credit +ℤ pos other) ≤ℤ pos 0 = omega (arith, ints, b.1, most) in record {
      quiet = quiet-move (credit +ℤ pos one) (credit +ℤ pos other)
          (rw (used-up (credit +ℤ pos one) up, used-up (credit +ℤ pos other) still) refl)
          (within-most (credit +ℤ pos one) (credit +ℤ pos other) (omega (arith, ints, still)));
      still = λ shown. cc;
    }

pub quiet-left : (range : ShiftRange) (credit : ℤ) → range.least ≡ pos 1 -ℤ credit
    → range.most ≡ pos (2 ^ 31 - 1) -ℤ credit → IsWindowQuietFor false range (Some credit)
quiet-left range credit least most one other p q =
    let a = within-least range one p in
    let b = within-least range other q in
    let some : pos 1 ≤ℤ (credit +ℤ pos one) = omega (arith, ints, a.0, least) in
    let still : pos 1 ≤ℤ (credit +ℤ pos other) = omega (arith, ints, b.0, least) in record {
      quiet = quiet-move (credit +ℤ pos one) (credit +ℤ pos other)
          (rw (left-over (credit +ℤ pos one) some, left-over (credit +ℤ pos other) still) refl)
          (within-most (credit +ℤ pos one) (credit +ℤ pos other) (omega (arith, ints, b.1, most)));
      still = λ shown. cc;
    }

pub quiet-entry : (frames_shown : Bool) (quiet : QuietShifts) (entry : Stream)
    → IsWindowQuietFor frames_shown quiet.client entry.window.client
    → IsWindowQuietFor frames_shown quiet.server entry.window.server → IsEntryQuietFor frames_shown quiet entry
quiet-entry frames_shown quiet entry c s one other p q =
    let a = both-true (is_within quiet.client one.client) (is_within quiet.server one.server) p in
    let b = both-true (is_within quiet.client other.client) (is_within quiet.server other.server) q in
    record { client = c one.client other.client a.0 b.0; server = s one.server other.server a.1 b.1 }

-- ---- whether rows are shifted

pub beq-same : (one other : Bool) → beq one other ≡ true → one ≡ other
beq-same true true e = refl
beq-same true false e = sym e
beq-same false true e = e
beq-same false false e = refl

pub none-of : {A : Type 0} (one : Option A) → is_some one ≡ false → one ≡ None
none-of None e = refl
none-of (Some x) e = cc

pub none-some : {A B : Type 0} (one : Option A) (x : A) → one ≡ None → one ≡ Some x → B
none-some one x p q = cc

pub wider : (window : Option ℤ) → WindowHasRoom (2 ^ 32) window → WindowHasRoom (2 ^ 60) window
wider window room credit is =
    let h = room credit is in (omega (arith, ints, h.0), omega (arith, ints, h.1))
