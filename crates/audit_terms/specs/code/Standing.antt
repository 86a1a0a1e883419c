-- How a side stands on a stream of which nothing is shown, where credits are not shown.
use Rattle.std.specs.Prelude.{◌≡◌, ℕ, ℤ, pos, ◌+ℤ◌, ◌-ℤ◌, ◌^◌, ◌<◌, Bool, ◌==◌, ◌&&◌, nat_lt, false}
use Rattle.std.specs.Prelude.{if◌then◌else◌, Option, Some, None, option_map}
use Rattle.std.specs.Option.{ForSome}
use Rattle.audit_terms.specs.Window.{is_used_up, overflows}

-- how a side stands, in one number: the credit of its live window, which is more than 0, since a credit of 0 would be
-- shown; 0 where its window is not live; and this where it has ended the stream
abbrev pub ended_mark : ℕ
ended_mark = 2 ^ 31

abbrev pub has_credit : (standing : ℕ) → Bool
has_credit standing = nat_lt 0 standing && nat_lt standing ended_mark

abbrev pub has_ended : (standing : ℕ) → Bool
has_ended standing = standing == ended_mark

-- how a side stands whose window is not live
abbrev pub without_window : (is_ended : Bool) → ℕ
without_window is_ended = if is_ended then ended_mark else 0

-- the window of a side that stands so
abbrev pub window_of : (standing : ℕ) → Option ℤ
window_of standing = if has_credit standing then Some (pos standing) else None

-- a credit after it rises by so many bytes and falls by so many
pub record IsBalance (credit rise fall after : ℕ) : Type 0 where
  pub moved : pos after ≡ pos credit +ℤ (pos rise -ℤ pos fall)
  pub within : after < 2 ^ 31

-- a credit as it is kept: more than 0, and no more than the largest
pub record IsCreditOf (credit : ℤ) (kept : ℕ) : Type 0 where
  pub same : pos kept ≡ credit
  pub some : 0 < kept
  pub within : kept < 2 ^ 31

-- a credit after the initial window in force goes from one value to another
abbrev pub credit_after_change : (before after : ℕ) → ℤ → ℤ
credit_after_change before after credit = credit +ℤ (pos after -ℤ pos before)

-- a window whose credit does not rise above the largest, and of which no stall begins or ends
abbrev pub IsQuietMove : (before after : Option ℤ) → Type 0
IsQuietMove before after =
    ForSome before (λ credit. ForSome after (λ next.
    (is_used_up credit ≡ is_used_up next) × (overflows credit next ≡ false)))

-- how a side stands after the initial window in force goes from one value to another: nothing of that is shown
pub record IsMovedBy (before after standing next : ℕ) : Type 0 where
  pub moved : window_of next ≡ option_map (credit_after_change before after) (window_of standing)
  pub quiet : IsQuietMove (window_of standing) (window_of next)
  pub ended : has_ended next ≡ has_ended standing
