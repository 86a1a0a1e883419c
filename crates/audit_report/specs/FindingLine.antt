-- The line of a finding.
use Rattle.std.specs.Prelude.{ℕ, List, [], ◌++◌, codes, Bool, not, ◌||◌, if◌then◌else◌}
use Rattle.std.specs.Fmt.{signed_decimal}
use Rattle.std.specs.List.{flat_map}
use Rattle.audit_report.specs.Line.{line, field}
use Rattle.audit_terms.specs.declared.findings.Finding.{Finding}
use Rattle.audit_terms.specs.declared.frames.Frame.{Frame}
use Rattle.audit_terms.specs.declared.timed_findings.TimedFinding.{TimedFinding}
use Rattle.audit_terms.specs.Kind.{kind_name, is_credit}
use Rattle.audit_terms.specs.Place.{place_number, place_stream}
use Rattle.audit_terms.specs.Side.{side_name}
use Rattle.audit_terms.specs.Timed.{timed}

-- `frame N record R time T SIDE KIND stream S value V`
abbrev pub timed_line : TimedFinding → List ℕ
timed_line one = line (field (codes "frame ") (place_number one.place) ++ field (codes " record ") one.rec
    ++ field (codes " time ") one.nanos ++ codes " " ++ side_name one.side
    ++ codes " " ++ kind_name one.kind ++ field (codes " stream ") (place_stream one.place)
    ++ codes " value " ++ signed_decimal one.value)

-- the line of a finding that is shown, nothing for another: credits are told only where the reader asks for them
abbrev pub timed_shown_line : (frames_shown : Bool) → TimedFinding → List ℕ
timed_shown_line frames_shown one = if frames_shown || not (is_credit one.kind) then timed_line one else []

-- the same, record and time being those of the frame of its number
abbrev pub shown_line : (frames_shown : Bool) → List Frame → Finding → List ℕ
shown_line frames_shown frames finding = timed_shown_line frames_shown (timed frames finding)

-- a line for each finding shown, in order
abbrev pub finding_lines : (frames_shown : Bool) → List Frame → List Finding → List ℕ
finding_lines frames_shown frames findings = flat_map (shown_line frames_shown frames) findings
