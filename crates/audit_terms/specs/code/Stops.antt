-- Where the audit of a connection stops: at the least place of a connection error.
use Rattle.std.specs.Prelude.{◌≡◌, ℕ, ◌≤◌, min, true, List, Contains, Option, Some, None}
use Rattle.audit_terms.specs.declared.findings.Finding.{Finding}
use Rattle.audit_terms.specs.Finding.{stops}

-- the lesser of two places, where none lies past all
abbrev pub lesser_place : (one other : Option ℕ) → Option ℕ
lesser_place None other = other
lesser_place (Some one) None = Some one
lesser_place (Some one) (Some other) = Some (min one other)

-- the least place of which something holds, or none where it holds of no place
abbrev pub IsLeast : (ℕ → Type 0) → Option ℕ → Type 0
IsLeast Holds None = (place : ℕ) → Holds place → ⊥
IsLeast Holds (Some least) = Holds least × ((place : ℕ) → Holds place → least ≤ place)

-- one of the findings is an error of the connection, and stands at this place
abbrev pub StopsAt : List Finding → (place : ℕ) → Type 0
StopsAt findings place = (found : Finding) × Contains findings found × (stops found ≡ true) × (found.place ≡ place)

-- the place of the first error of the connection among these findings, if there is one
abbrev pub IsFirstStop : List Finding → Option ℕ → Type 0
IsFirstStop found stop = IsLeast (StopsAt found) stop
