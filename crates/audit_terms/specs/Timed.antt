-- When the frame of a finding was captured.
use Rattle.std.specs.Prelude.{ℕ, ◌==◌, List, Option, find, option_map, unwrap_or}
use Rattle.audit_terms.specs.Place.{place_number}
use Rattle.audit_terms.specs.declared.findings.Finding.{Finding}
use Rattle.audit_terms.specs.declared.frames.Frame.{Frame}
use Rattle.audit_terms.specs.declared.timed_findings.TimedFinding.{TimedFinding}

-- the frame of this number, if it is among these
abbrev pub frame_numbered : List Frame → ℕ → Option Frame
frame_numbered frames number = find (λ (frame : Frame). frame.number == number) frames

-- the record at which the last byte of that frame arrived; 0 where there is no such frame
abbrev pub record_at : List Frame → ℕ → ℕ
record_at frames number = unwrap_or (option_map (λ (frame : Frame). frame.rec) (frame_numbered frames number)) 0

-- when that record was captured, in nanoseconds; 0 where there is no such frame
abbrev pub nanos_at : List Frame → ℕ → ℕ
nanos_at frames number = unwrap_or (option_map (λ (frame : Frame). frame.nanos) (frame_numbered frames number)) 0

-- a finding of this record and this time
abbrev pub timed_at : (rec nanos : ℕ) → Finding → TimedFinding
timed_at rec nanos finding = record {
  place = finding.place;
  value = finding.value;
  nanos = nanos;
  rec = rec;
  kind = finding.kind;
  side = finding.side;
}

-- a finding of the frame of its number
abbrev pub timed : List Frame → Finding → TimedFinding
timed frames finding = let number = place_number finding.place in
    timed_at (record_at frames number) (nanos_at frames number) finding
