use Rattle.std.proofs.Common.{Err, Ok, ◌∙◌, ap, refl}
use Rattle.std.specs.List.{concat}
use Rattle.std.proofs.lemmas.Result.{err_from_is_err_and}
use Rattle.input_output.specs.declared.report_writer.WriteFault.{WriteFault}
use Rattle.report_pages.specs.code.Entries.{entries_at}
use Rattle.report_pages.proofs.WrittenBytes.{written-front, written-more}
use Rattle.report_pages.proofs.writing.write_text.Goals as goal

pub returns-in_err-write_bytes-clause-written : goal.returns-in_err-write_bytes-clause-written
returns-in_err-write_bytes-clause-written g c =
    let e : WriteFault = c.in_err-write_bytes.field-0.0 in
    let told = err_from_is_err_and c.from_residual.result c.from_residual.ensures.1 in
    rw (told.1 ∙ ap Err told.2)
    (written-front g.W.Write.contents c.args.writer.now c.write_bytes.new.writer c.args.text.now
    (concat (entries_at c.args.from)) (Err e) e c.in_err-write_bytes.ensures refl)

pub returns-clause-written : goal.returns-clause-written
returns-clause-written g c =
    written-more g.W.Write.contents c.args.writer.now c.write_bytes.new.writer c.write_entries.new.writer
    c.args.text.now (concat (entries_at c.args.from)) (Ok tt) c.write_entries.result c.in_ok-write_bytes.ensures refl
    c.write_entries.ensures.written
