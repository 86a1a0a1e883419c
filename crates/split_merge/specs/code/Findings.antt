-- The findings of one connection, in several lists.
use Rattle.std.specs.Global.{Global}
use Rattle.std.specs.Prelude.{List, Vec}
use Rattle.std.specs.List.{flat_map}
use Rattle.audit_terms.specs.declared.findings.Finding.{Finding}
use Rattle.split_merge.specs.declared.findings.Findings.{Findings}

-- those of each list, one list after the other
abbrev pub findings_in : Findings → List Finding
findings_in found = flat_map (λ (list : Vec Finding Global). list.items) found.lists.items
