-- Findings that have the record and the time of their frame.
use Rattle.audit_terms.specs.Timed.{timed_at}
use Rattle.audit_terms.specs.declared.findings.Finding.{Finding}
use Rattle.audit_terms.specs.declared.frames.Frame.{Frame}
use Rattle.audit_terms.specs.declared.timed_findings.TimedFinding.{TimedFinding}

-- a finding of this frame
abbrev pub timed_by : Frame → Finding → TimedFinding
timed_by frame finding = timed_at frame.rec frame.nanos finding

-- the finding itself
abbrev pub finding_in : TimedFinding → Finding
finding_in one = record { place = one.place; side = one.side; kind = one.kind; value = one.value }
