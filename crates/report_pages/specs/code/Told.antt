-- How what is kept of connections stands for their audits.
use Rattle.std.specs.Prelude.{◌≡◌, List, [], length, map}
use Rattle.std.specs.List.{AllZip}
use Rattle.audit_report.specs.Stalls.{stalls}
use Rattle.audit_report.specs.declared.audited.Audited.{Audited}
use Rattle.audit_report.specs.declared.contents.Contents.{Contents}
use Rattle.audit_report.specs.declared.contents.Contents.TheVariants as contents
use Rattle.audit_terms.specs.Timed.{timed}
use Rattle.audit_terms.specs.declared.findings.Finding.{Finding}
use Rattle.audit_terms.specs.code.runs.Orderly.{IsOrderly}
use Rattle.h2_frames.specs.declared.cuts.Cut.{Cut}
use Rattle.h2_frames.specs.declared.cuts.Cut.TheVariants.{Http2, NotHttp2, NoPreface, NoHandshake}
use Rattle.report_pages.specs.code.Reach.{extents_in}
use Rattle.report_pages.specs.declared.told.Outcome.{Outcome}
use Rattle.report_pages.specs.declared.told.Outcome.TheVariants as outcome
use Rattle.report_pages.specs.declared.told.Told.{Told}
use Rattle.split_merge.specs.code.Findings.{findings_in}

-- what the lines of a connection say that its flows hold
abbrev pub contents_in : Outcome → Contents
contents_in (outcome.Quiet quiet) = contents.Http2 quiet.frames quiet.tails
contents_in (outcome.Found found) = contents.Http2 found.value.count found.value.tails
contents_in (outcome.Audited audited) = contents.Http2 (length audited.value.frames.items) audited.value.tails
contents_in outcome.NotHttp2 = contents.NotHttp2
contents_in outcome.NoPreface = contents.NoPreface
contents_in outcome.NoHandshake = contents.NoHandshake

-- the outcome has of this cut, and of what was found, all that a report tells
abbrev pub IsOutcomeOf : Outcome → Cut → List Finding → Type 0
IsOutcomeOf (outcome.Quiet quiet) (Http2 frames tails) findings =
    (quiet.frames ≡ length frames.items) × (quiet.tails ≡ tails) × (findings ≡ [])
IsOutcomeOf (outcome.Found found) (Http2 frames tails) findings =
    (found.value.count ≡ length frames.items) × (found.value.tails ≡ tails)
    × (found.value.findings.items ≡ map (timed frames.items) findings)
    × (found.value.stalls.items ≡ stalls frames.items findings)
IsOutcomeOf (outcome.Audited audited) (Http2 frames tails) findings =
    (audited.value.frames.items ≡ frames.items) × (audited.value.tails ≡ tails)
    × (findings_in audited.value.findings ≡ findings) × (audited.value.stalls.items ≡ stalls frames.items findings)
IsOutcomeOf outcome.NotHttp2 NotHttp2 findings = findings ≡ []
IsOutcomeOf outcome.NoPreface NoPreface findings = findings ≡ []
IsOutcomeOf outcome.NoHandshake NoHandshake findings = findings ≡ []
IsOutcomeOf _ _ findings = ⊥

-- what is kept of a connection stands for this audit, of which it has all that a report tells
pub record IsToldOf (told : Told) (audited : Audited) : Type 0 where
  pub extents : extents_in told.reach ≡ audited.extents
  pub outcome : IsOutcomeOf told.outcome audited.cut audited.findings.items

-- each for each, in order
abbrev pub AreToldOf : List Told → List Audited → Type 0
AreToldOf = AllZip IsToldOf

-- the frames, where all are kept, are in range and numbered upwards
abbrev pub HasOrderlyOutcome : Outcome → Type 0
HasOrderlyOutcome (outcome.Audited audited) = IsOrderly audited.value.frames.items
HasOrderlyOutcome _ = Unit {0}
