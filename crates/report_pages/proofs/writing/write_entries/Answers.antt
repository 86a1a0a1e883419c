use Rattle.std.proofs.Common.{Err, Ok, Vec, ℕ, ◌≡◌, ◌*◌, ◌++◌, ◌∙◌, ◌<◌, ap, append_assoc, arith, drop, length, refl}
use Rattle.std.proofs.Common.{subst, sym, take}
use Rattle.std.proofs.lemmas.List.{take-append-drop}
use Rattle.std.proofs.lemmas.List.Folds.{concat-append}
use Rattle.std.specs.{Global.Global, List.concat, List.flat_map}
use Rattle.std.proofs.lemmas.Result.{err_from_is_err_and}
use Rattle.input_output.specs.declared.report_writer.WriteFault.{WriteFault}
use Rattle.report_pages.specs.code.Entries.{entries_at}
use Rattle.report_pages.specs.code.Written.{HasWritten}
use Rattle.report_pages.proofs.WrittenBytes.{written-front, written-more}
use Rattle.report_pages.proofs.writing.write_entries.Goals as goal

pub loop-cursor-smaller : goal.loop-cursor-smaller
loop-cursor-smaller g c =
    let left : 0 < length c.loop-cursor.cursor.told.now = grind (arith, c.is_done.ensures, c.loop-cursor-test.true) in
    let some = c.loop-cursor.invariant.are.some left in
    c.skip-cursor.ensures.less (grind (arith, some, c.fill_pages.ensures.same), left)

pub loop-cursor-preserved : goal.loop-cursor-preserved
loop-cursor-preserved g c =
    let now = c.loop-cursor.invariant in
    let text = flat_map (λ (page : Vec ℕ Global). page.items) c.fill_pages.new.pages in
    let all = entries_at c.loop-cursor.cursor in
    let n = c.args.entries * length c.loop-cursor.pages in
    let left : 0 < length c.loop-cursor.cursor.told.now = grind (arith, c.is_done.ensures, c.loop-cursor-test.true) in
    let behind : entries_at c.skip-cursor.result ≡ drop n all =
    c.skip-cursor.ensures.entries ∙ ap (λ k. drop (c.args.entries * k) all) c.fill_pages.ensures.same in
    record {
      cursor = c.skip-cursor.ensures.cursor;
      are = record {
        some = λ more. let some = now.are.some left in (some.0, omega (arith, some, c.fill_pages.ensures.same));
        few = rw c.fill_pages.ensures.same now.are.few;
        room = c.fill_pages.ensures.room;
      };
      same = c.fill_pages.ensures.same ∙ now.same;
      done = now.done ++ text;
      whole = ap (λ l. (now.done ++ text) ++ concat l) behind
          ∙ append_assoc now.done text (concat (drop n all))
          ∙ ap (λ l. now.done ++ (l ++ concat (drop n all))) c.fill_pages.ensures.text
          ∙ ap (λ l. now.done ++ l) (sym (concat-append (take n all) (drop n all)) ∙ ap concat (take-append-drop n all))
          ∙ now.whole;
      written = written-more g.W.Write.contents c.args.writer.now c.loop-cursor.writer c.write_pages.new.writer now.done
          text (Ok tt) (Ok tt) now.written refl c.in_ok-write_pages.ensures;
    }

pub returns-in_err-write_pages-clause-written : goal.returns-in_err-write_pages-clause-written
returns-in_err-write_pages-clause-written g c =
    let now = c.loop-cursor.invariant in
    let text = flat_map (λ (page : Vec ℕ Global). page.items) c.fill_pages.new.pages in
    let all = entries_at c.loop-cursor.cursor in
    let n = c.args.entries * length c.loop-cursor.pages in
    let e : WriteFault = c.in_err-write_pages.field-0.0 in
    let whole : (now.done ++ text) ++ concat (drop n all) ≡ concat (entries_at c.args.from) =
    append_assoc now.done text (concat (drop n all))
    ∙ ap (λ l. now.done ++ (l ++ concat (drop n all))) c.fill_pages.ensures.text
    ∙ ap (λ l. now.done ++ l) (sym (concat-append (take n all) (drop n all)) ∙ ap concat (take-append-drop n all))
    ∙ now.whole in
    let told = err_from_is_err_and c.from_residual.result c.from_residual.ensures.1 in
    rw (told.1 ∙ ap Err told.2)
    (subst (λ l. HasWritten g.W.Write.contents c.args.writer.now c.write_pages.new.writer l (Err e)) whole
    (written-front g.W.Write.contents c.args.writer.now c.write_pages.new.writer (now.done ++ text)
    (concat (drop n all)) (Err e) e
    (written-more g.W.Write.contents c.args.writer.now c.loop-cursor.writer c.write_pages.new.writer now.done text
    (Ok tt) (Err e) now.written refl c.in_err-write_pages.ensures) refl))
