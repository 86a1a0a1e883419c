use Rattle.std.proofs.Common.{Err, Ok, ◌∙◌, ap, arith, drop, length, length-drop, refl, subst, take}
use Rattle.std.proofs.Math.Seq.{take-add}
use Rattle.std.proofs.lemmas.List.{take-append-drop, take_all}
use Rattle.std.proofs.lemmas.Result.{err_from_is_err_and}
use Rattle.input_output.specs.declared.report_writer.WriteFault.{WriteFault}
use Rattle.report_pages.specs.code.Written.{HasWritten}
use Rattle.report_pages.proofs.WrittenBytes.{written-failed, written-more, written-none, written-some}
use Rattle.report_pages.proofs.writing.write_bytes.Goals as goal

pub loop-at-init : goal.loop-at-init
loop-at-init g c = record { within = omega arith; written = written-none g.W.Write.contents c.args.writer.now }

pub loop-at-preserved : goal.loop-at-preserved
loop-at-preserved g c =
    let bytes = c.args.bytes.now in
    let at = c.loop-at.at in
    let n = c.in_ok-at.field-0 in
    let wrote = c.in_ok-at.ensures in
    record {
      within = omega (
        arith,
        wrote.some.1,
        ap length c.split_at.ensures.back,
        length-drop at bytes,
        c.loop-at.invariant.within,
      );
      written = rw (take-add at n bytes) (written-more g.W.Write.contents c.args.writer.now c.loop-at.writer
          c.write.new.self (take at bytes) (take n (drop at bytes)) (Ok tt) (Ok tt) c.loop-at.invariant.written refl
          (rw (← c.split_at.ensures.back) (written-some g.W.Write.contents c.loop-at.writer c.write.new.self _ n
          wrote.some.0 wrote.some.1 wrote.taken wrote.called)));
    }

pub returns-in_err-at : goal.returns-in_err-at
returns-in_err-at g c =
    let bytes = c.args.bytes.now in
    let at = c.loop-at.at in
    let e : WriteFault = c.in_err-at.field-0.0 in
    let told = err_from_is_err_and c.from_residual.result c.from_residual.ensures.1 in
    rw (told.1 ∙ ap Err told.2)
    (subst (λ l. HasWritten g.W.Write.contents c.args.writer.now c.write.new.self l (Err e)) (take-append-drop at bytes)
    (written-more g.W.Write.contents c.args.writer.now c.loop-at.writer c.write.new.self (take at bytes) (drop at bytes)
    (Ok tt) (Err e) c.loop-at.invariant.written refl
    (rw (← c.split_at.ensures.back) (written-failed g.W.Write.contents c.loop-at.writer c.write.new.self _ e
    c.in_err-at.ensures.kept c.in_err-at.ensures.failed))))

pub returns : goal.returns
returns g c =
    rw (take_all c.loop-at.at c.args.bytes.now (omega (arith, c.loop-at-test.false))) at c.loop-at.invariant.written
