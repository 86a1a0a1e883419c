-- The text of sections, by their entries.
use Rattle.std.proofs.Common.{◌≡◌, ℕ, ◌+◌, Bool, List, [], ◌∷◌, ◌++◌, Vec, map}
use Rattle.std.proofs.Common.{refl, ap, sym, ◌∙◌, append-nil, append_assoc}
use Rattle.std.proofs.lemmas.Grind.{flat_map-append}
use Rattle.std.proofs.lemmas.List.Folds.{concat-append}
use Rattle.std.specs.{Global.Global, List.concat, List.flat_map}
use Rattle.audit_report.specs.EndLine.{end_line}
use Rattle.audit_report.specs.FindingLine.{finding_lines, shown_line, timed_shown_line}
use Rattle.audit_report.specs.code.Findings.{timed_lines}
use Rattle.audit_report.specs.StallLine.{stall_line, stall_lines}
use Rattle.audit_report.specs.code.Contents.{opening_text}
use Rattle.audit_report.specs.declared.headings.SectionHeading.{SectionHeading}
use Rattle.audit_terms.specs.code.TimedFindings.{finding_in}
use Rattle.audit_terms.specs.declared.{findings.Finding.Finding, frames.Frame.Frame}
use Rattle.report_pages.proofs.Pieces.{joined-map}
use Rattle.report_pages.specs.code.Entries.{Entries, audited_stretches, entries_in, found_stretches, listed}
use Rattle.report_pages.specs.code.Entries.{outcome_stretches, section_stretches, told_stretches}
use Rattle.report_pages.specs.code.Reach.{extents_in}
use Rattle.report_pages.specs.code.Sections.{audited_text, found_text, outcome_text, section_text, told_text}
use Rattle.report_pages.specs.code.Told.{contents_in}
use Rattle.report_pages.specs.declared.told.AuditedFrames.{AuditedFrames}
use Rattle.report_pages.specs.declared.told.FoundFrames.{FoundFrames}
use Rattle.report_pages.specs.declared.told.Outcome.{Outcome}
use Rattle.report_pages.specs.declared.told.Outcome.TheVariants.{Audited, Found, Quiet}
use Rattle.report_pages.specs.declared.told.Outcome.TheVariants.{NotHttp2, NoPreface, NoHandshake}
use Rattle.report_pages.specs.declared.told.Told.{Told}
use Rattle.split_merge.specs.code.Findings.{findings_in}

-- the text of stretches
abbrev text-of : List Entries → List ℕ
text-of stretches = concat (entries_in stretches)

text-more : (one : Entries) (rest : List Entries) → text-of (one ∷ rest) ≡ concat one ++ text-of rest
text-more one rest = concat-append one (entries_in rest)

text-both : (front back : List Entries) → text-of (front ++ back) ≡ text-of front ++ text-of back
text-both front back =
    ap concat (flat_map-append (λ (stretch : Entries). stretch) front back)
    ∙ concat-append (entries_in front) (entries_in back)

-- findings, list after list
text-listed : (shown : Bool) (frames : List Frame) (lists : List (Vec Finding Global))
    → text-of (listed shown frames lists)
    ≡ finding_lines shown frames (flat_map (λ (list : Vec Finding Global). list.items) lists)
text-listed shown frames [] = refl
text-listed shown frames (list ∷ lists) =
    let rest = flat_map (λ (list : Vec Finding Global). list.items) lists in
    text-more (map (shown_line shown frames) list.items) (listed shown frames lists)
    ∙ ap (λ l. l ++ text-of (listed shown frames lists)) (joined-map (shown_line shown frames) list.items)
    ∙ ap (λ l. finding_lines shown frames list.items ++ l) (text-listed shown frames lists)
    ∙ sym (flat_map-append (shown_line shown frames) list.items rest)

text-audited : (shown : Bool) (audited : AuditedFrames)
    → text-of (audited_stretches shown audited) ≡ audited_text shown audited
text-audited shown audited =
    let stalls : Entries = map stall_line audited.stalls.items in
    let end : List ℕ = end_line (findings_in audited.findings) in
    text-both (listed shown audited.frames.items audited.findings.lists.items) (stalls ∷ (end ∷ []) ∷ [])
    ∙ ap (λ l. l ++ text-of (stalls ∷ (end ∷ []) ∷ [])) (text-listed shown audited.frames.items
    audited.findings.lists.items)
    ∙ ap (λ l. finding_lines shown audited.frames.items (findings_in audited.findings) ++ l)
    (text-more stalls ((end ∷ []) ∷ []) ∙ ap (λ l. l ++ (end ++ [])) (joined-map stall_line audited.stalls.items)
    ∙ ap (λ l. stall_lines audited.stalls.items ++ l) (append-nil end))
    ∙ sym (append_assoc (finding_lines shown audited.frames.items (findings_in audited.findings))
    (stall_lines audited.stalls.items) end)

text-found : (shown : Bool) (found : FoundFrames) → text-of (found_stretches shown found) ≡ found_text shown found
text-found shown found =
    let findings : Entries = map (timed_shown_line shown) found.findings.items in
    let stalls : Entries = map stall_line found.stalls.items in
    let end : List ℕ = end_line (map finding_in found.findings.items) in
    text-more findings (stalls ∷ (end ∷ []) ∷ [])
    ∙ ap (λ l. l ++ text-of (stalls ∷ (end ∷ []) ∷ [])) (joined-map (timed_shown_line shown) found.findings.items)
    ∙ ap (λ l. timed_lines shown found.findings.items ++ l)
    (text-more stalls ((end ∷ []) ∷ []) ∙ ap (λ l. l ++ (end ++ [])) (joined-map stall_line found.stalls.items)
    ∙ ap (λ l. stall_lines found.stalls.items ++ l) (append-nil end))
    ∙ sym (append_assoc (timed_lines shown found.findings.items) (stall_lines found.stalls.items) end)

text-outcome : (shown : Bool) (outcome : Outcome) → text-of (outcome_stretches shown outcome)
    ≡ outcome_text shown outcome
text-outcome shown (Quiet quiet) = append-nil (end_line [])
text-outcome shown (Found found) = text-found shown found.value
text-outcome shown (Audited audited) = text-audited shown audited.value
text-outcome shown NotHttp2 = refl
text-outcome shown NoPreface = refl
text-outcome shown NoHandshake = refl

text-section : (shown : Bool) (k : ℕ) (h : SectionHeading) (t : Told)
    → text-of (section_stretches shown k h t) ≡ section_text shown k h t
text-section shown k h t =
    let opening : List ℕ = opening_text k h (extents_in t.reach) (contents_in t.outcome) in
    text-more (opening ∷ []) (outcome_stretches shown t.outcome)
    ∙ ap (λ l. l ++ text-of (outcome_stretches shown t.outcome)) (append-nil opening)
    ∙ ap (λ l. opening ++ l) (text-outcome shown t.outcome)

-- the text of all sections is that of their entries
pub told-entries : (shown : Bool) (k : ℕ) (hs : List SectionHeading) (ts : List Told)
    → told_text shown k hs ts ≡ concat (entries_in (told_stretches shown k hs ts))
told-entries shown k [] ts = refl
told-entries shown k (h ∷ hs) [] = refl
told-entries shown k (h ∷ hs) (t ∷ ts) =
    ap (λ l. l ++ told_text shown (k + 1) hs ts) (sym (text-section shown k h t))
    ∙ ap (λ l. text-of (section_stretches shown k h t) ++ l) (told-entries shown (k + 1) hs ts)
    ∙ sym (text-both (section_stretches shown k h t) (told_stretches shown (k + 1) hs ts))
