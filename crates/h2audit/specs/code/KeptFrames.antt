-- The connections of which all frames are kept, and how what is found in these goes to them.
use Rattle.std.specs.List.{flat_map}
use Rattle.std.specs.Prelude.{◌≡◌, ◌<◌, ◌^◌, Bool, List, [], ◌∷◌, length, map}
use Rattle.audit_report.specs.Stalls.{stalls}
use Rattle.audit_terms.specs.Finding.{shown}
use Rattle.audit_terms.specs.Pass.{pass}
use Rattle.audit_terms.specs.declared.findings.Finding.{Finding}
use Rattle.audit_terms.specs.declared.frames.Frame.{Frame}
use Rattle.report_pages.specs.declared.told.Outcome.{Outcome}
use Rattle.report_pages.specs.declared.told.Outcome.TheVariants.{Audited}
use Rattle.report_pages.specs.declared.told.Told.{Told}
use Rattle.split_merge.specs.code.Findings.{findings_in}
use Rattle.split_merge.specs.declared.findings.Findings.{Findings}

-- all frames of a connection, where they are kept
abbrev pub frames_of : Outcome → List (List Frame)
frames_of (Audited audited) = audited.value.frames.items ∷ []
frames_of _ = []

-- those of each connection of which they are kept
abbrev pub kept_frames : List Told → List (List Frame)
kept_frames made = flat_map (λ (one : Told). frames_of one.outcome) made

-- what is shown of them
abbrev pub shown_in_kept : (frames_shown : Bool) → List Told → List (List Finding)
shown_in_kept frames_shown made = map (λ frames. shown frames_shown (pass frames)) (kept_frames made)

-- the findings of the first of these, or none
abbrev pub first_of : List Findings → List Finding
first_of [] = []
first_of (findings ∷ rest) = findings_in findings

-- the outcome has the first of these findings and their stalls, where it has all frames
abbrev pub IsOutcomeWith : Outcome → List Findings → Outcome → Type 0
IsOutcomeWith (Audited made) found (Audited audited) =
    (audited.value.frames ≡ made.value.frames) × (audited.value.tails ≡ made.value.tails)
    × (findings_in audited.value.findings ≡ first_of found)
    × (audited.value.stalls.items ≡ stalls made.value.frames.items (first_of found))
    × (length (findings_in audited.value.findings) < 2 ^ 63)
IsOutcomeWith (Audited made) found _ = ⊥
IsOutcomeWith made found outcome = outcome ≡ made

-- what is told of a connection, with the first of these findings where all its frames are kept
pub record IsToldWith (made : Told) (found : List Findings) (told : Told) : Type 0 where
  pub reach : told.reach ≡ made.reach
  pub outcome : IsOutcomeWith made.outcome found told.outcome

-- the findings that are left after it
abbrev pub left_after : Outcome → List Findings → List Findings
left_after (Audited audited) [] = []
left_after (Audited audited) (findings ∷ rest) = rest
left_after _ found = found

-- what is told of all
abbrev pub AreToldWith : List Told → List Findings → List Told → Type 0
AreToldWith [] found told = told ≡ []
AreToldWith (first ∷ made) found [] = ⊥
AreToldWith (first ∷ made) found (one ∷ told) =
    IsToldWith first found one × AreToldWith made (left_after first.outcome found) told

-- what is told of all, from what their flows hold and what is shown of the frames that are kept
pub record AreFound (frames_shown : Bool) (made told : List Told) : Type 0 where
  pub found : List Findings
  pub are : map findings_in found ≡ shown_in_kept frames_shown made
  pub put : AreToldWith made found told
