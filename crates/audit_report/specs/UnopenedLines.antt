-- A line for each pair of endpoints that has segments with no opening at or before them.
use Rattle.std.specs.Prelude.{ℕ, List, ◌++◌, codes}
use Rattle.std.specs.List.{flat_map}
use Rattle.audit_report.specs.Line.{line, field}
use Rattle.audit_report.specs.Endpoint.{endpoint_text}
use Rattle.tcp_streams.specs.declared.members.Stray.{Stray}

-- `unopened FROM TO segments N`
abbrev pub unopened_line : Stray → List ℕ
unopened_line stray = line (codes "unopened " ++ endpoint_text stray.from ++ codes " " ++ endpoint_text stray.to
    ++ field (codes " segments ") stray.segments)

abbrev pub unopened_lines : List Stray → List ℕ
unopened_lines strays = flat_map unopened_line strays
