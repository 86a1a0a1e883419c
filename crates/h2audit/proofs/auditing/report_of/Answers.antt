use Rattle.std.proofs.Common.{ap, subst, sym, ◌∙◌, ◌++◌, List, ℕ}
use Rattle.report_pages.specs.code.Sections.{told_text}
use Rattle.report_pages.specs.code.Told.{AreToldOf}
use Rattle.report_pages.specs.declared.told.Told.{Told}
use Rattle.h2audit.proofs.Standing.{told-same}
use Rattle.h2audit.proofs.auditing.report_of.Goals as goal

pub returns : goal.returns
returns c =
    let shown = c.args.frames_shown in
    let told = c.args.told.items in
    let lines = c.args.lines.items in
    λ connections audited headed stand. (
      c.in_ok-report.ensures ∙ ap (λ headings. lines ++ told_text shown 1 headings told) headed
          ∙ ap (λ (l : List ℕ). lines ++ l) (told-same shown 1 connections told audited stand),
      c.verdict_on-verdict.ensures audited
          (subst (λ (l : List Told). AreToldOf l audited) (sym c.as_slice.ensures.value) stand),
    )
