-- The sections of connections, by what is kept of these.
use Rattle.std.specs.Prelude.{◌≡◌, ℕ, ◌+◌, ◌<◌, ◌^◌, Bool, List, [], ◌∷◌, ◌++◌, All, length, map}
use Rattle.audit_report.specs.EndLine.{end_line}
use Rattle.audit_report.specs.FindingLine.{finding_lines}
use Rattle.audit_report.specs.code.Findings.{timed_lines}
use Rattle.audit_report.specs.StallLine.{stall_lines}
use Rattle.audit_report.specs.code.Contents.{opening_text}
use Rattle.audit_report.specs.declared.headings.SectionHeading.{SectionHeading}
use Rattle.audit_terms.specs.code.TimedFindings.{finding_in}
use Rattle.report_pages.specs.code.Reach.{extents_in}
use Rattle.report_pages.specs.code.Told.{HasOrderlyOutcome, contents_in}
use Rattle.report_pages.specs.declared.told.AuditedFrames.{AuditedFrames}
use Rattle.report_pages.specs.declared.told.FoundFrames.{FoundFrames}
use Rattle.report_pages.specs.declared.told.Outcome.{Outcome}
use Rattle.report_pages.specs.declared.told.Outcome.TheVariants.{Audited, Found, Quiet}
use Rattle.report_pages.specs.declared.told.Told.{Told}
use Rattle.split_merge.specs.code.Findings.{findings_in}

-- the lines of the findings shown, of stalls, and of the audit's end
abbrev pub audited_text : (frames_shown : Bool) → AuditedFrames → List ℕ
audited_text frames_shown audited =
    finding_lines frames_shown audited.frames.items (findings_in audited.findings)
    ++ stall_lines audited.stalls.items
    ++ end_line (findings_in audited.findings)

-- the same, where findings have the record and the time of their frames
abbrev pub found_text : (frames_shown : Bool) → FoundFrames → List ℕ
found_text frames_shown found =
    timed_lines frames_shown found.findings.items
    ++ stall_lines found.stalls.items
    ++ end_line (map finding_in found.findings.items)

abbrev pub outcome_text : (frames_shown : Bool) → Outcome → List ℕ
outcome_text frames_shown (Quiet quiet) = end_line []
outcome_text frames_shown (Found found) = found_text frames_shown found.value
outcome_text frames_shown (Audited audited) = audited_text frames_shown audited.value
outcome_text frames_shown _ = []

-- all that the report says of the k-th connection
abbrev pub section_text : (frames_shown : Bool) (k : ℕ) → SectionHeading → Told → List ℕ
section_text frames_shown k heading told =
    opening_text k heading (extents_in told.reach) (contents_in told.outcome)
    ++ outcome_text frames_shown told.outcome

-- and of those after it
abbrev pub told_text : (frames_shown : Bool) (k : ℕ) → List SectionHeading → List Told → List ℕ
told_text frames_shown k (heading ∷ headings) (told ∷ rest) =
    section_text frames_shown k heading told ++ told_text frames_shown (k + 1) headings rest
told_text frames_shown k _ _ = []

-- what is told of connections stands under their headings, of which the first has this number
pub record AreHeaded (k : ℕ) (headings : List SectionHeading) (told : List Told) : Type 0 where
  pub each : length told ≡ length headings
  pub orderly : All (λ (t : Told). HasOrderlyOutcome t.outcome) told
  pub numbers : k + length headings < 2 ^ 64
