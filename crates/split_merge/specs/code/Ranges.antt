-- Findings in slices of lists, and in ranges of places that stand one after the other.
use Rattle.std.specs.Global.{Global}
use Rattle.std.specs.Prelude.{◌≡◌, ◌++◌, ◌∷◌, [], false, List, Vec}
use Rattle.std.specs.List.{flat_map}
use denote.Ref.{Bor}
use Rattle.audit_terms.specs.Finding.{comes_after, in_order, upto_stop}
use Rattle.audit_terms.specs.declared.findings.Finding.{Finding}

-- all findings of slices
abbrev pub all_in : List (Bor (List Finding)) → List Finding
all_in slices = flat_map (λ (slice : Bor (List Finding)). slice.now) slices

-- fronts and backs of slices together have the same findings
abbrev pub AreParted : List (Bor (List Finding)) → Vec (Bor (List Finding)) Global × Vec (Bor (List Finding)) Global →
    Type 0
AreParted slices both = in_order (all_in both.0.items ++ all_in both.1.items) ≡ in_order (all_in slices)

-- findings as a merge leaves them: in order, none past the least that stops
abbrev pub AreMerged : List Finding → Type 0
AreMerged found = upto_stop (in_order found) ≡ found

-- the last finding
abbrev pub EndsWith : List Finding → Finding → Type 0
EndsWith found last = (front : List Finding) × (found ≡ front ++ last ∷ [])

-- the first finding
abbrev pub BeginsWith : List Finding → Finding → Type 0
BeginsWith found first = (rest : List Finding) × (found ≡ first ∷ rest)

-- the last finding of those before does not stand behind the first of those after
abbrev pub AreInTurn : (before : List Finding) → (last : Finding) → (after : List Finding) → Type 0
AreInTurn before last after =
    EndsWith before last × ((first : Finding) × BeginsWith after first × (comes_after last first ≡ false))
