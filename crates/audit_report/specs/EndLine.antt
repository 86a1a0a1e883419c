-- The last line of an HTTP/2 connection: how far its audit went.
use Rattle.std.specs.Prelude.{ℕ, List, ◌-◌, codes, if◌then◌else◌, length, slice_get, Option, Some, None}
use Rattle.audit_report.specs.Line.{line, field}
use Rattle.audit_terms.specs.declared.findings.Finding.{Finding}
use Rattle.audit_terms.specs.Finding.{stops}
use Rattle.audit_terms.specs.Place.{place_number}

-- after a connection error its frame, else all frames
abbrev pub end_line_after : Option Finding → List ℕ
end_line_after None = line (codes "audit of all frames")
end_line_after (Some last) =
    if stops last then line (field (codes "audit stopped at frame ") (place_number last.place))
    else line (codes "audit of all frames")

-- by the last finding, if there is one
abbrev pub end_line : List Finding → List ℕ
end_line findings = end_line_after (slice_get findings (length findings - 1))
