-- A job that looks as it has to, and heeds the stop of its connection.
use Rattle.std.specs.Prelude.{◌≡◌, ℕ, List, Option, None, Some, Contains}
use Rattle.audit_terms.specs.declared.findings.Finding.{Finding}
use Rattle.audit_terms.specs.code.runs.Look.{Asked, Looked, LooksInTime, last_answer, upto_of}

-- a job made the looks that are due and no other, and where it goes up to a place, one of them answered that place
pub record Heeds {L : Type 0} (answers : L → List Finding → Option ℕ → L → Type 0)
    (due : List Asked → (upto : Option ℕ) → Type 0) (before after : L) (upto : Option ℕ) : Type 0 where
  pub asked : List Asked
  pub looked : Looked answers before asked after
  pub in_time : due asked upto
  pub answered : (place : ℕ) → upto ≡ Some place →
      (one : Asked) × Contains asked one × (one.answer ≡ Some place)

-- the looks that are due of a run with steps of these numbers, which would find `whole`, and up to where it then goes
abbrev pub RunLooks : (numbers : List ℕ) → (whole : List Finding) → List Asked → (upto : Option ℕ) → Type 0
RunLooks numbers whole asked upto =
    LooksInTime numbers whole asked × (upto ≡ upto_of numbers (last_answer None asked))
