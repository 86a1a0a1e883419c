-- What a desk has settled once it is closed with the pass that all others were joined into.
use Rattle.std.specs.Prelude.{◌≡◌, ℕ, ◌<◌, ◌≤◌, ◌⊎◌, List, Option, Some, None, length}
use Rattle.stop_desk.specs.code.Counts.{times, once_below, marks}
use Rattle.stop_desk.specs.code.Desk.{DeskId, ClosedView, IsConnection, opening_stop, final_stop}
use Rattle.stop_desk.specs.code.Calls.{IsAtMost}

-- the stop is the least of the opening stop of connection c and of the places lowered for it, or none where there is
-- none
abbrev pub IsLeastOnDesk : DeskId → (lowered : List (ℕ × ℕ)) → (c : ℕ) → (stop : Option ℕ) → Type 0
IsLeastOnDesk d lowered c None = (opening_stop d c ≡ None) × ((p : ℕ) → ¬ (0 < marks c p lowered))
IsLeastOnDesk d lowered c (Some q) =
    IsAtMost q (opening_stop d c) × ((p : ℕ) → 0 < marks c p lowered → q ≤ p)
    × ((opening_stop d c ≡ Some q) ⊎ (0 < marks c q lowered))

-- each number below the count of draws was drawn once and no other; each stop is the least; each place seen was given
pub record IsDeskSettled (k : ClosedView) : Type 0 where
  pub numbers : (x : ℕ) → times x k.drawn ≡ once_below x (length k.drawn)
  pub stops : (c : ℕ) → IsConnection k.desk c → IsLeastOnDesk k.desk k.lowered c (final_stop k c)
  pub given : (c p : ℕ) → 0 < marks c p k.seen → (opening_stop k.desk c ≡ Some p) ⊎ (0 < marks c p k.lowered)
