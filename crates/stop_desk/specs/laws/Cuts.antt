-- How cuts and rounds go together.
use Rattle.std.specs.Prelude.{◌≡◌, ℕ, nat_le, List, ◌++◌, filter, Option, Some}
use Rattle.audit_terms.specs.declared.findings.Finding.{Finding}
use Rattle.audit_terms.specs.Finding.{in_order, upto_stop}
use Rattle.stop_desk.specs.code.Board.{IsPast, IsCut}

-- the findings at or before a place, of a list in order, are a cut of it
abbrev pub FrontIsCut : Type 0
FrontIsCut = (whole : List Finding) (upto : ℕ) → in_order whole ≡ whole →
    IsCut whole (Some upto) (filter (λ (found : Finding). nat_le found.place upto) whole)

-- a whole list in order is a cut of it, up to whichever place
abbrev pub WholeIsCut : Type 0
WholeIsCut = (whole : List Finding) (upto : Option ℕ) → in_order whole ≡ whole → IsCut whole upto whole

-- cuts of two lists, put in order, are a cut of the two together, up to a place that lies past neither's own
abbrev pub CutsJoin : Type 0
CutsJoin = (one other kept_of_one kept_of_other : List Finding) (upto upto_of_one upto_of_other : Option ℕ) →
    IsCut one upto_of_one kept_of_one → IsCut other upto_of_other kept_of_other →
    ((place : ℕ) → IsPast upto_of_one place → IsPast upto place) →
    ((place : ℕ) → IsPast upto_of_other place → IsPast upto place) →
    IsCut (one ++ other) upto (in_order (kept_of_one ++ kept_of_other))

-- findings that are the same up to their stop are so after the same findings join them
abbrev pub StopsJoin : Type 0
StopsJoin = (one other more : List Finding) → upto_stop (in_order one) ≡ upto_stop (in_order other) →
    upto_stop (in_order (one ++ more)) ≡ upto_stop (in_order (other ++ more))
