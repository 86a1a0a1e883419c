-- The parts of a live window's step, as the code works them out one by one: `window_step` has all of them.
use Rattle.std.specs.Prelude.{ℕ, ℤ, pos, ◌+ℤ◌, ◌-ℤ◌, Bool, ◌&&◌, nat_lt, if◌then◌else◌}
use Rattle.audit_terms.specs.declared.sides.Side.{Side}
use Rattle.audit_terms.specs.declared.sides.Sides.{Sides}
use Rattle.audit_terms.specs.declared.items.Step.{Step}
use Rattle.audit_terms.specs.Sides.{side_of}
use Rattle.audit_terms.specs.Frame.{content_by, grant_to}
use Rattle.audit_terms.specs.Window.{overflows}
use Rattle.audit_terms.specs.Change.{new_initial}
use Rattle.audit_terms.specs.Stream.{step_amount}

-- what the step moves a live window of side d by: what is granted to it, less what is sent through it (6.9, 6.9.1), and
-- the new initial window minus the old (6.9.2)
abbrev pub window_moved : Side → (stream : ℕ) → Sides ℕ → Step → ℤ
window_moved d stream initial step =
    (pos (step_amount (grant_to d stream) step) -ℤ pos (step_amount (content_by d) step))
    +ℤ (pos (new_initial step.change d (side_of d initial)) -ℤ pos (side_of d initial))

-- the credit of a live window once the step is counted
abbrev pub credit_after_step : Side → (stream : ℕ) → Sides ℕ → Step → (before : ℤ) → ℤ
credit_after_step d stream initial step before = before +ℤ window_moved d stream initial step

-- a grant that would bring the window above the largest (6.9.1)
abbrev pub is_overflowing_grant : Side → (stream : ℕ) → Sides ℕ → Step → (before : ℤ) → Bool
is_overflowing_grant d stream initial step before =
    nat_lt 0 (step_amount (grant_to d stream) step) && overflows before (credit_after_step d stream initial step before)

-- the last credit that is known of a live window: an overflowing grant is not added
abbrev pub last_credit : Side → (stream : ℕ) → Sides ℕ → Step → (before : ℤ) → ℤ
last_credit d stream initial step before =
    if is_overflowing_grant d stream initial step before then before else credit_after_step d stream initial step before
