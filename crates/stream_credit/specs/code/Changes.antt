-- The changes of a connection, by number: what they leave in force, and how many of them a stream has met.
use Rattle.std.specs.Prelude.{◌≡◌, ℕ, ◌+◌, ◌<◌, ◌≤◌, List, [], ◌∷◌, take, drop, length, slice_get, Option, Some, None}
use Rattle.audit_terms.specs.declared.sides.Sides.{Sides}
use Rattle.audit_terms.specs.declared.items.Change.{Change}
use Rattle.audit_terms.specs.InForce.{initial_in_force}
use Rattle.audit_terms.specs.code.runs.Streams.{initial_after}

-- the initial windows in force after some changes
abbrev pub after_changes : Sides ℕ → List Change → Sides ℕ
after_changes now [] = now
after_changes now (change ∷ changes) = after_changes (initial_after (Some change) now) changes

-- the initial windows in force after each of some changes
abbrev pub after_each : Sides ℕ → List Change → List (Sides ℕ)
after_each now [] = []
after_each now (change ∷ changes) =
    initial_after (Some change) now ∷ after_each (initial_after (Some change) now) changes

-- the initial windows in force after so many of the changes
abbrev pub initial_at : (met : ℕ) → List Change → Sides ℕ
initial_at met changes = after_changes initial_in_force.initial (take met changes)

-- the first change, if there is one, is not before the number
abbrev pub AreFrom : (number : ℕ) → List Change → Type 0
AreFrom number [] = Unit {0}
AreFrom number (change ∷ changes) = number ≤ change.number

-- the change behind so many is before the number
pub record IsDue (number met : ℕ) (changes : List Change) (change : Change) : Type 0 where
  pub at : slice_get changes met ≡ Some change
  pub below : change.number < number

-- those from `met` up to `next` are before the number, and those from there on are not
pub record ArePassed (number : ℕ) (changes : List Change) (met next : ℕ) : Type 0 where
  pub order : met ≤ next
  pub within : next ≤ length changes
  pub before : (k : ℕ) (change : Change) → met ≤ k → k < next → slice_get changes k ≡ Some change
      → change.number < number
  pub from : AreFrom number (drop next changes)

-- the change that a frame of the number brings, behind so many that are before it
abbrev pub IsBrought : (number met : ℕ) → List Change → Option Change → Type 0
IsBrought number met changes None = AreFrom number (drop met changes) → AreFrom (number + 1) (drop met changes)
IsBrought number met changes (Some change) = (slice_get changes met ≡ Some change) × (change.number ≡ number)

-- how many are met behind such a frame
abbrev pub met_after : (met : ℕ) → Option Change → ℕ
met_after met None = met
met_after met (Some change) = met + 1
