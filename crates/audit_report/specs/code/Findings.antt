-- The parts of the line of a finding.
use Rattle.std.specs.List.{flat_map}
use Rattle.std.specs.Prelude.{◌≡◌, ◌≤◌, ◌+◌, ℕ, Bool, List, ◌++◌, codes, drop}
use Rattle.std.specs.Fmt.{signed_decimal}
use Rattle.audit_report.specs.FindingLine.{timed_shown_line}
use Rattle.audit_report.specs.Line.{field}
use Rattle.audit_report.specs.declared.moments.Moment.{Moment}
use Rattle.audit_terms.specs.declared.timed_findings.TimedFinding.{TimedFinding}
use Rattle.audit_terms.specs.Kind.{kind_name}
use Rattle.audit_terms.specs.Place.{place_stream}
use Rattle.audit_terms.specs.Side.{side_name}

-- ` record R time T`
abbrev pub moment_text : (rec nanos : ℕ) → List ℕ
moment_text rec nanos = field (codes " record ") rec ++ field (codes " time ") nanos

-- the moment has its text, which is short
pub record IsSpelled (moment : Moment) : Type 0 where
  pub within : moment.begin ≤ 512
  pub short : 512 ≤ moment.begin + 54
  pub text : drop moment.begin moment.spelled ≡ moment_text moment.rec moment.nanos

-- ` SIDE KIND stream S value V`
abbrev pub said_text : TimedFinding → List ℕ
said_text one = codes " " ++ side_name one.side ++ codes " " ++ kind_name one.kind
    ++ field (codes " stream ") (place_stream one.place) ++ codes " value " ++ signed_decimal one.value

-- a line for each finding shown, in order
abbrev pub timed_lines : (frames_shown : Bool) → List TimedFinding → List ℕ
timed_lines frames_shown findings = flat_map (timed_shown_line frames_shown) findings
