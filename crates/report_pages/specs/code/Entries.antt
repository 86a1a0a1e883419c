-- Entries: the opening of a section, and each line behind it. Together they are the section's text.
use Rattle.std.specs.Global.{Global}
use Rattle.std.specs.List.{flat_map}
use Rattle.std.specs.Prelude.{◌≡◌, ℕ, ◌+◌, ◌-◌, ◌<◌, ◌≤◌, Bool, List, [], ◌∷◌, ◌++◌, Vec, drop, length, map, take}
use Rattle.std.specs.Prelude.{slice_index_or}
use Rattle.audit_report.specs.EndLine.{end_line}
use Rattle.audit_report.specs.FindingLine.{shown_line, timed_shown_line}
use Rattle.audit_report.specs.StallLine.{stall_line}
use Rattle.audit_report.specs.code.Contents.{opening_text}
use Rattle.audit_report.specs.declared.headings.SectionHeading.{SectionHeading}
use Rattle.audit_terms.specs.code.TimedFindings.{finding_in}
use Rattle.audit_terms.specs.code.runs.Orderly.{IsOrderly}
use Rattle.audit_terms.specs.declared.findings.Finding.{Finding}
use Rattle.audit_terms.specs.declared.frames.Frame.{Frame}
use Rattle.report_pages.specs.code.Reach.{extents_in}
use Rattle.report_pages.specs.code.Sections.{AreHeaded}
use Rattle.report_pages.specs.code.Told.{contents_in}
use Rattle.report_pages.specs.declared.cursors.Cursor.{Cursor}
use Rattle.report_pages.specs.declared.stretches.Piece.{Piece}
use Rattle.report_pages.specs.declared.stretches.Stretch.{Stretch}
use Rattle.report_pages.specs.declared.stretches.Stretch.TheVariants.{Opening, Findings, Timed, Stalls, End, TimedEnd}
use Rattle.report_pages.specs.declared.told.AuditedFrames.{AuditedFrames}
use Rattle.report_pages.specs.declared.told.FoundFrames.{FoundFrames}
use Rattle.report_pages.specs.declared.told.Outcome.{Outcome}
use Rattle.report_pages.specs.declared.told.Outcome.TheVariants.{Audited, Found, Quiet}
use Rattle.report_pages.specs.declared.told.Told.{Told}
use Rattle.split_merge.specs.code.Findings.{findings_in}

-- the texts of entries that follow each other
abbrev pub Entries : Type 0
Entries = List (List ℕ)

-- the entries of a stretch
abbrev pub entries_of : (frames_shown : Bool) → Stretch → Entries
entries_of frames_shown (Opening k heading told) =
    opening_text k heading.now (extents_in told.now.reach) (contents_in told.now.outcome) ∷ []
entries_of frames_shown (Findings findings frames) = map (shown_line frames_shown frames.now) findings.now
entries_of frames_shown (Timed findings) = map (timed_shown_line frames_shown) findings.now
entries_of frames_shown (Stalls stalls) = map stall_line stalls.now
entries_of frames_shown (End lists) = end_line (flat_map (λ (list : Vec Finding Global). list.items) lists.now) ∷ []
entries_of frames_shown (TimedEnd findings) = end_line (map finding_in findings.now) ∷ []

-- its findings are of frames in order
abbrev pub IsOrderlyStretch : Stretch → Type 0
IsOrderlyStretch (Findings findings frames) = IsOrderly frames.now
IsOrderlyStretch _ = Unit {0}

-- those of each list of findings
abbrev pub listed : (frames_shown : Bool) → List Frame → List (Vec Finding Global) → List Entries
listed frames_shown frames lists =
    map (λ (list : Vec Finding Global). map (shown_line frames_shown frames) list.items) lists

-- the stretches behind the opening of a section
abbrev pub audited_stretches : (frames_shown : Bool) → AuditedFrames → List Entries
audited_stretches frames_shown audited =
    listed frames_shown audited.frames.items audited.findings.lists.items
    ++ map stall_line audited.stalls.items
    ∷ (end_line (findings_in audited.findings) ∷ [])
    ∷ []

-- the same, where findings have the record and the time of their frames
abbrev pub found_stretches : (frames_shown : Bool) → FoundFrames → List Entries
found_stretches frames_shown found =
    map (timed_shown_line frames_shown) found.findings.items
    ∷ map stall_line found.stalls.items
    ∷ (end_line (map finding_in found.findings.items) ∷ [])
    ∷ []

abbrev pub outcome_stretches : (frames_shown : Bool) → Outcome → List Entries
outcome_stretches frames_shown (Quiet quiet) = (end_line [] ∷ []) ∷ []
outcome_stretches frames_shown (Found found) = found_stretches frames_shown found.value
outcome_stretches frames_shown (Audited audited) = audited_stretches frames_shown audited.value
outcome_stretches frames_shown _ = []

-- those of a section
abbrev pub section_stretches : (frames_shown : Bool) (k : ℕ) → SectionHeading → Told → List Entries
section_stretches frames_shown k heading told =
    (opening_text k heading (extents_in told.reach) (contents_in told.outcome) ∷ [])
    ∷ outcome_stretches frames_shown told.outcome

-- and of those after it
abbrev pub told_stretches : (frames_shown : Bool) (k : ℕ) → List SectionHeading → List Told → List Entries
told_stretches frames_shown k (heading ∷ headings) (told ∷ rest) =
    section_stretches frames_shown k heading told ++ told_stretches frames_shown (k + 1) headings rest
told_stretches frames_shown k _ _ = []

-- all entries of stretches
abbrev pub entries_in : List Entries → Entries
entries_in stretches = flat_map (λ (stretch : Entries). stretch) stretches

-- the stretches from the one on at which a cursor stands
abbrev pub stretches_at : Cursor → List Entries
stretches_at cursor =
    drop cursor.stretch (told_stretches cursor.frames_shown cursor.k cursor.headings.now cursor.told.now)

-- the entries from a cursor on
abbrev pub entries_at : Cursor → Entries
entries_at cursor = drop cursor.at (entries_in (stretches_at cursor))

-- how many steps there are from a cursor on, at most
abbrev pub steps_at : Cursor → ℕ
steps_at cursor = length (stretches_at cursor) + length (entries_at cursor)

-- the stretch is one of the first section, and the entry one of the stretch, or the first behind it
abbrev pub StandsIn : (frames_shown : Bool) (at stretch k : ℕ) → List SectionHeading → List Told → Type 0
StandsIn frames_shown at stretch k (heading ∷ headings) (told ∷ rest) =
    (stretch < length (section_stretches frames_shown k heading told))
    × (at ≤ length (slice_index_or (section_stretches frames_shown k heading told) stretch []))
StandsIn frames_shown at stretch k _ _ = (stretch ≡ 0) × (at ≡ 0)

-- a cursor stands among the sections of connections
pub record IsCursor (cursor : Cursor) : Type 0 where
  pub headed : AreHeaded cursor.k cursor.headings.now cursor.told.now
  pub stands : StandsIn cursor.frames_shown cursor.at cursor.stretch cursor.k cursor.headings.now cursor.told.now

-- the entries of a piece of a stretch
abbrev pub entries_of_piece : (frames_shown : Bool) → Piece → Entries
entries_of_piece frames_shown piece =
    take (piece.to - piece.from) (drop piece.from (entries_of frames_shown piece.stretch))

-- a piece lies within its stretch
pub record IsPiece (frames_shown : Bool) (piece : Piece) : Type 0 where
  pub orderly : IsOrderlyStretch piece.stretch
  pub rises : piece.from ≤ piece.to
  pub within : piece.to ≤ length (entries_of frames_shown piece.stretch)

-- a piece of so many entries at most, and the cursor behind it
pub record IsStep (most : ℕ) (before : Cursor) (step : Piece × Cursor) : Type 0 where
  pub piece : IsPiece before.frames_shown step.0
  pub few : step.0.to - step.0.from ≤ most
  pub entries : entries_at before ≡ entries_of_piece before.frames_shown step.0 ++ entries_at step.1
  pub cursor : IsCursor step.1
  pub frames_shown : step.1.frames_shown ≡ before.frames_shown
  pub less : 0 < most → steps_at step.1 < steps_at before
