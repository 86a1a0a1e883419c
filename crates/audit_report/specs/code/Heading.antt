-- What the line of a connection says of its opening, with the connection's ends together.
use Rattle.std.specs.Prelude.{ℕ, List, ◌++◌, codes}
use Rattle.audit_report.specs.Line.{field}
use Rattle.audit_report.specs.code.Roles.{roles_text}
use Rattle.audit_report.specs.declared.headings.SectionHeading.{SectionHeading}

-- `connection K client ENDPOINT server ENDPOINT record N`
abbrev pub headed_text : (k : ℕ) → SectionHeading → List ℕ
headed_text k heading = field (codes "connection ") k ++ roles_text heading.client heading.server
    ++ field (codes " record ") heading.rec
