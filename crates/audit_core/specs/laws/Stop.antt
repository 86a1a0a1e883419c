-- Where the findings of a connection end, and the order in which they stand.
use Rattle.std.specs.Prelude.{◌≡◌, true, false, List, [], ◌∷◌, ◌++◌, ◌⊎◌}
use Rattle.std.specs.List.{AllByRecursion}
use Rattle.audit_terms.specs.declared.frames.Frame.{Frame}
use Rattle.audit_terms.specs.declared.findings.Finding.{Finding}
use Rattle.audit_terms.specs.code.runs.Orderly.{IsOrderly}
use Rattle.audit_terms.specs.Finding.{stops, in_order, upto_stop}
use Rattle.audit_terms.specs.Pass.{full}

-- none of them is an error of the connection
abbrev pub NoneStops : List Finding → Type 0
NoneStops findings = AllByRecursion (λ finding. stops finding ≡ false) findings

-- the findings up to this one, which stops and is the first that does
pub record EndsAt (findings front : List Finding) (last : Finding) (rest : List Finding) : Type 0 where
  pub parts : findings ≡ front ++ last ∷ rest
  pub front_goes_on : NoneStops front
  pub last_stops : stops last ≡ true
  pub kept : upto_stop findings ≡ front ++ last ∷ []

-- what is kept is a front of the findings, in which nothing but its last stops; without a stop it is all of them
abbrev pub KeptUptoFirstStop : Type 0
KeptUptoFirstStop = (findings : List Finding) →
    (NoneStops findings × (upto_stop findings ≡ findings))
    ⊎ ((front : List Finding) × (last : Finding) × (rest : List Finding) × EndsAt findings front last rest)

-- the findings of a connection stand in order of place, side, kind and value, so the first that stops is the least
abbrev pub FindingsStandInOrder : Type 0
FindingsStandInOrder = (frames : List Frame) → IsOrderly frames → in_order (full frames) ≡ full frames
