-- Stalls (this profile's own notion): a window's credit was used up at one frame, and is above zero again from another.
use Rattle.std.specs.Prelude.{ℕ, pos, ◌-ℤ◌, ◌==◌, ◌&&◌, Bool, if◌then◌else◌, List, [], ◌∷◌, Option, Some, None, find}
use Rattle.std.specs.Prelude.{map}
use Rattle.audit_terms.specs.declared.sides.Side.{Side}
use Rattle.audit_terms.specs.declared.findings.Finding.{Finding}
use Rattle.audit_terms.specs.declared.frames.Frame.{Frame}
use Rattle.audit_terms.specs.declared.timed_findings.TimedFinding.{TimedFinding}
use Rattle.audit_terms.specs.Side.{is_side}
use Rattle.audit_terms.specs.Kind.{begins_stall, ends_stall}
use Rattle.audit_terms.specs.Place.{place_number, place_stream}
use Rattle.audit_terms.specs.Timed.{timed}
use Rattle.audit_report.specs.declared.stalls.Stall.{Stall}

-- the finding ends a stall of the window through which this side sends on this stream, 0 being the connection
abbrev pub is_end_of : Side → ℕ → TimedFinding → Bool
is_end_of side stream found =
    ends_stall found.kind && (is_side side found.side && (place_stream found.place == stream))

-- the first end of that window's stall among these findings
abbrev pub first_end : Side → ℕ → List TimedFinding → Option TimedFinding
first_end side stream findings = find (is_end_of side stream) findings

-- the stall that begins with the one finding and ends with the other, if it ends: frame numbers, and the time between
abbrev pub stall_of : TimedFinding → Option TimedFinding → Stall
stall_of begin None = record {
  side = begin.side;
  stream = place_stream begin.place;
  from = place_number begin.place;
  to = None;
  nanos = pos 0;
}
stall_of begin (Some end) = record {
  side = begin.side;
  stream = place_stream begin.place;
  from = place_number begin.place;
  to = Some (place_number end.place);
  nanos = pos end.nanos -ℤ pos begin.nanos;
}

-- a stall for each finding that begins one, in order; it ends with the first end of its window after it
abbrev pub timed_stalls : List TimedFinding → List Stall
timed_stalls [] = []
timed_stalls (found ∷ later) =
    if begins_stall found.kind
    then stall_of found (first_end found.side (place_stream found.place) later) ∷ timed_stalls later
    else timed_stalls later

-- the same, each time being that of the frame of a finding's number
abbrev pub stalls : List Frame → List Finding → List Stall
stalls frames findings = timed_stalls (map (timed frames) findings)
