use Rattle.std.proofs.Common.{◌≡◌, ◌++◌, ◌∙◌, ap, subst, sym}
use Rattle.std.specs.List.{concat}
use Rattle.report_pages.specs.code.Entries.{entries_in, told_stretches}
use Rattle.report_pages.specs.code.Written.{HasWritten}
use Rattle.report_pages.proofs.Texts.{told-entries}
use Rattle.report_pages.proofs.report.Report.write_all.Goals as goal

pub returns : goal.returns
returns g c =
    let inside = c.report.inside in
    let shown = inside.frames_shown in
    let whole : c.as_slice-3.result.now
    ++ concat (entries_in (told_stretches shown 1 c.as_slice.result.now c.as_slice-2.result.now)) ≡ c.args.self =
    rw (c.as_slice.ensures.value, c.as_slice-2.ensures.value, c.as_slice-3.ensures.value)
    (ap (λ l. inside.lines.items ++ l) (sym (told-entries shown 1 inside.headings.items inside.told.items))
    ∙ c.report.view_is) in
    subst (λ l. HasWritten g.W.Write.contents c.args.writer.now c.write_text.new.writer l c.write_text.result) whole
    c.write_text.ensures.written
