use Rattle.std.proofs.Common.{arith, length, refl, subst, sym, take, drop, ◌-◌, ◌≤◌}
use Rattle.std.proofs.lemmas.List.{length-map}
use Rattle.std.specs.List.{concat}
use Rattle.audit_report.specs.{FindingLine.shown_line, FindingLine.timed_shown_line, StallLine.stall_line}
use Rattle.audit_report.specs.code.Pages.{Adds}
use Rattle.report_pages.specs.code.Entries.{entries_of}
use Rattle.report_pages.specs.declared.stretches.Stretch.{Stretch}
use Rattle.report_pages.proofs.Pieces.{adds-slice}
use Rattle.report_pages.proofs.stretches.add_piece.Goals as goal

pub returns-in-Findings : goal.returns-in-Findings
returns-in-Findings c =
    let shown = c.args.frames_shown in
    let findings = c.in-Findings.findings.now in
    let line = shown_line shown c.in-Findings.frames.now in
    let within = subst (λ (s : Stretch). c.args.to ≤ length (entries_of shown s)) c.in-Findings.is
    c.requires.piece.within in
    subst (λ (s : Stretch). Adds (c.args.to - c.args.from) (concat (take (c.args.to - c.args.from) (drop c.args.from
    (entries_of shown s)))) c.args.page.now c.add_finding_lines.new.page) (sym c.in-Findings.is)
    (adds-slice line c.args.from c.args.to findings _ _ c.args.page.now c.add_finding_lines.new.page refl
    c.requires.piece.rises (omega (arith, within, length-map findings line)) refl c.add_finding_lines.ensures)

pub returns-in-Timed : goal.returns-in-Timed
returns-in-Timed c =
    let shown = c.args.frames_shown in
    let findings = c.in-Timed.findings.now in
    let line = timed_shown_line shown in
    let within = subst (λ (s : Stretch). c.args.to ≤ length (entries_of shown s)) c.in-Timed.is
    c.requires.piece.within in
    subst (λ (s : Stretch). Adds (c.args.to - c.args.from) (concat (take (c.args.to - c.args.from) (drop c.args.from
    (entries_of shown s)))) c.args.page.now c.add_timed_lines.new.page) (sym c.in-Timed.is)
    (adds-slice line c.args.from c.args.to findings _ _ c.args.page.now c.add_timed_lines.new.page refl
    c.requires.piece.rises (omega (arith, within, length-map findings line)) refl c.add_timed_lines.ensures)

pub returns-in-Stalls : goal.returns-in-Stalls
returns-in-Stalls c =
    let shown = c.args.frames_shown in
    let stalls = c.in-Stalls.stalls.now in
    let within = subst (λ (s : Stretch). c.args.to ≤ length (entries_of shown s)) c.in-Stalls.is
    c.requires.piece.within in
    subst (λ (s : Stretch). Adds (c.args.to - c.args.from) (concat (take (c.args.to - c.args.from) (drop c.args.from
    (entries_of shown s)))) c.args.page.now c.add_stall_lines.new.page) (sym c.in-Stalls.is)
    (adds-slice stall_line c.args.from c.args.to stalls _ _ c.args.page.now c.add_stall_lines.new.page refl
    c.requires.piece.rises (omega (arith, within, length-map stalls stall_line)) refl c.add_stall_lines.ensures)
