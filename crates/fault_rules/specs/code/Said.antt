-- Findings of several kinds at one place, each said where its test holds.
use Rattle.std.specs.Prelude.{Bool, List, [], ◌∷◌, ◌++◌}
use Rattle.audit_terms.specs.declared.kinds.Kind.{Kind}
use Rattle.audit_terms.specs.declared.findings.Finding.{Finding}
use Rattle.audit_terms.specs.Finding.{say}

-- of each kind whose test holds its finding, in turn
abbrev pub said_by : (Kind → Finding) → List (Bool × Kind) → List Finding
said_by finding [] = []
said_by finding (test ∷ tests) = say test.0 (finding test.1) ++ said_by finding tests
