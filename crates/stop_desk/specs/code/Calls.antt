-- What a draw, a look and a lowering do to the pass that makes them.
use Rattle.std.specs.Prelude.{◌≡◌, ℕ, ◌+◌, ◌<◌, ◌≤◌, [], ◌∷◌, ◌++◌, Option, Some, None, ⊤}
use Rattle.stop_desk.specs.declared.claims.Claim.{Claim}
use Rattle.stop_desk.specs.declared.claims.Claim.TheVariants.{Spent, Job, Done}
use Rattle.stop_desk.specs.code.Counts.{times}
use Rattle.stop_desk.specs.code.Desk.{PassView, pass_of, opening_stop, HasSeen, HasLowered}

-- the pass drew the number n, which it did not hold, for one of its allowance
pub record Draws (before : PassView) (n : ℕ) (after : PassView) : Type 0 where
  pub paid : before.allowance ≡ after.allowance + 1
  pub fresh : times n before.drawn ≡ 0
  pub added : after ≡ pass_of before.desk after.allowance (before.drawn ++ n ∷ []) before.seen before.lowered

-- a claim: spent exactly where no allowance is left, a job by its number, or done by a number past the jobs
abbrev pub IsClaim : (jobs : ℕ) → PassView → Claim → PassView → Type 0
IsClaim jobs before Spent after = (before.allowance ≡ 0) × (after ≡ before)
IsClaim jobs before (Job n) after = (n < jobs) × Draws before n after
IsClaim jobs before Done after = (n : ℕ) × (jobs ≤ n) × Draws before n after

-- q is at most the stop, if there is one
abbrev pub IsAtMost : ℕ → Option ℕ → Type 0
IsAtMost q None = ⊤
IsAtMost q (Some p) = q ≤ p

-- a look at the stop of connection c: none only where the pass knew of no stop, or a place at most each that it knew
abbrev pub IsLook : (c : ℕ) → PassView → Option ℕ → PassView → Type 0
IsLook c before None after =
    (after ≡ before) × (opening_stop before.desk c ≡ None)
    × ((p : ℕ) → ¬ (HasSeen before c p)) × ((p : ℕ) → ¬ (HasLowered before c p))
IsLook c before (Some q) after =
    IsAtMost q (opening_stop before.desk c)
    × ((p : ℕ) → HasSeen before c p → q ≤ p) × ((p : ℕ) → HasLowered before c p → q ≤ p)
    × (after ≡ pass_of before.desk before.allowance before.drawn (before.seen ++ (c, q) ∷ []) before.lowered)
