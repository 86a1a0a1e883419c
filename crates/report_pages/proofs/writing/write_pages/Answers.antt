use Rattle.std.proofs.Common.{Err, Ok, Vec, ℕ, ◌≡◌, ◌+◌, ◌++◌, ◌∙◌, ap, drop, refl, subst, take}
use Rattle.std.proofs.lemmas.{List.take_all}
use Rattle.std.specs.{Global.Global, List.flat_map}
use Rattle.std.proofs.lemmas.Result.{err_from_is_err_and}
use Rattle.input_output.specs.declared.report_writer.WriteFault.{WriteFault}
use Rattle.report_pages.specs.code.Written.{HasWritten}
use Rattle.report_pages.proofs.WrittenBytes.{pages-more, pages-rest, written-front, written-more, written-none}
use Rattle.report_pages.proofs.writing.write_pages.Goals as goal

pub loop-page-init : goal.loop-page-init
loop-page-init g c = written-none g.W.Write.contents c.args.writer.now

pub loop-page-preserved : goal.loop-page-preserved
loop-page-preserved g c =
    let pages = c.args.pages.now in
    let i = c.loop-page.page-index in
    let items = λ (page : Vec ℕ Global). page.items in
    subst (λ l. HasWritten {E = WriteFault} g.W.Write.contents c.args.writer.now c.write_bytes.new.writer l (Ok tt))
    (pages-more pages i c.page-item.result c.as_slice.result.now c.loop-page-test.true c.page-item.is
    c.as_slice.ensures.value)
    (written-more g.W.Write.contents c.args.writer.now c.loop-page.writer c.write_bytes.new.writer
    (flat_map items (take i pages)) c.as_slice.result.now (Ok tt) (Ok tt) c.loop-page.invariant refl
    c.in_ok-write_bytes.ensures)

pub returns-in_err-write_bytes : goal.returns-in_err-write_bytes
returns-in_err-write_bytes g c =
    let pages = c.args.pages.now in
    let i = c.loop-page.page-index in
    let items = λ (page : Vec ℕ Global). page.items in
    let one = c.as_slice.result.now in
    let e : WriteFault = c.in_err-write_bytes.field-0.0 in
    let whole : (flat_map items (take i pages) ++ one) ++ flat_map items (drop (i + 1) pages) ≡ flat_map items pages =
    ap (λ l. l ++ flat_map items (drop (i + 1) pages))
    (pages-more pages i c.page-item.result one c.loop-page-test.true c.page-item.is c.as_slice.ensures.value)
    ∙ pages-rest pages (i + 1) in
    let told = err_from_is_err_and c.from_residual.result c.from_residual.ensures.1 in
    rw (told.1 ∙ ap Err told.2)
    (subst (λ l. HasWritten g.W.Write.contents c.args.writer.now c.write_bytes.new.writer l (Err e)) whole
    (written-front g.W.Write.contents c.args.writer.now c.write_bytes.new.writer (flat_map items (take i pages) ++ one)
    (flat_map items (drop (i + 1) pages)) (Err e) e
    (written-more g.W.Write.contents c.args.writer.now c.loop-page.writer c.write_bytes.new.writer
    (flat_map items (take i pages)) one (Ok tt) (Err e) c.loop-page.invariant refl c.in_err-write_bytes.ensures) refl))

pub returns : goal.returns
returns g c =
    rw (take_all c.loop-page.page-index c.args.pages.now c.loop-page-test.false) at c.loop-page.invariant
