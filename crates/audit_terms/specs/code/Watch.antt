-- A run that looks, between two of its steps.
use Rattle.std.specs.Prelude.{◌≡◌, ℕ, ◌+◌, ◌*◌, ◌≤◌, Bool, true, false, List, [], ◌∷◌, ◌++◌, length, Option, None}
use Rattle.std.specs.Bool.{MatchBool}
use Rattle.std.specs.List.{list_any}
use Rattle.audit_terms.specs.declared.findings.Finding.{Finding}
use Rattle.audit_terms.specs.declared.looks.Watch.{Watch}
use Rattle.audit_terms.specs.code.runs.Look.{Asked, Looked, found_before, last_answer, is_past, steps_between}
use Rattle.audit_terms.specs.code.runs.Look.{LooksOn, LooksInTime}

-- numbers that never fall, the first `low` or above
abbrev pub NeverFallFrom : (low : ℕ) → List ℕ → Type 0
NeverFallFrom low [] = Unit {0}
NeverFallFrom low (number ∷ numbers) = (low ≤ number) × NeverFallFrom number numbers

-- after the steps of the numbers `met`, with those of the numbers `left` to come, none of those met lies past the last
-- answer, and the next look is due after `watch.left` steps
pub record Watches {L : Type 0} (answers : L → List Finding → Option ℕ → L → Type 0) (before now : L)
    (whole : List Finding) (met left : List ℕ) (watch : Watch) : Type 0 where
  pub asked : List Asked
  pub looked : Looked answers before asked now
  pub count : length asked ≡ watch.looks
  pub last : last_answer None asked ≡ watch.stop
  pub due : length met + watch.left ≡ steps_between * watch.looks
  pub rise : NeverFallFrom 0 (met ++ left)
  pub within : list_any (is_past watch.stop) met ≡ false
  pub in_time : (rest : List Asked) → LooksOn (met ++ left) whole watch.looks watch.stop rest
      → LooksInTime (met ++ left) whole (asked ++ rest)

-- stopped before the step of a number, which lies past the last answer; `numbers` are those of all steps
pub record IsStopped {L : Type 0} (answers : L → List Finding → Option ℕ → L → Type 0) (before now : L)
    (whole : List Finding) (numbers : List ℕ) (number : ℕ) (watch : Watch) : Type 0 where
  pub asked : List Asked
  pub looked : Looked answers before asked now
  pub count : length asked ≡ watch.looks
  pub last : last_answer None asked ≡ watch.stop
  pub past : is_past watch.stop number ≡ true
  pub any : list_any (is_past watch.stop) numbers ≡ true
  pub in_time : LooksInTime numbers whole asked

-- so many steps were met that the next look is due when it says, and no more of them than the number of the next
abbrev pub HasMetBefore : (number : ℕ) → Watch → Type 0
HasMetBefore number watch = (met : ℕ) × (met ≤ number) × (met + watch.left ≡ steps_between * watch.looks)

module _ {L : Type 0} where
  -- whether a run goes on to the step of a number: past it, it is watched as before; else it stopped before it
  abbrev pub GoesOn : (L → List Finding → Option ℕ → L → Type 0) → (before now : L) → (found : List Finding)
      → (number : ℕ) → (old new : Watch) → (goes_on : Bool) → Type 0
  GoesOn answers before now found number old new goes_on =
      (start : L) (whole : List Finding) (met left : List ℕ) → found ≡ found_before number whole
      → Watches answers start before whole met (number ∷ left) old
      → MatchBool goes_on (Watches answers start now whole (met ++ number ∷ []) left new)
      (IsStopped answers start now whole (met ++ number ∷ left) number new)
