-- The line of a record that the capture's end cuts.
use Rattle.std.specs.Prelude.{ℕ, List, [], ◌++◌, codes, Option, Some, None}
use Rattle.audit_report.specs.Line.{line, field}

-- `record N cut`, where there is such a record
abbrev pub cut_record_line : Option ℕ → List ℕ
cut_record_line None = []
cut_record_line (Some number) = line (field (codes "record ") number ++ codes " cut")
