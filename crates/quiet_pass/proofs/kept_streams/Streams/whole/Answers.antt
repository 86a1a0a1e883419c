use Rattle.stream_credit.proofs.Words.{List, subst, sym}
use Rattle.quiet_pass.proofs.WholeLemmas.{whole-listed}
use Rattle.quiet_pass.specs.code.WholeStreams.{AreListed}
use Rattle.quiet_pass.specs.declared.whole_streams.WholeStream.{WholeStream}
use Rattle.quiet_pass.proofs.kept_streams.Streams.whole.Goals as goal

pub returns : goal.returns
returns c = λ streams h.
    let one = rw (c.in_ok-list.ensures.items, c.as_slice.ensures.value, c.shift-shift.ensures)
    at c.in_ok-add_rows.ensures in
    let two = rw (one, c.as_slice-2.ensures.value, c.shift-shift.ensures) at c.in_ok-add_rows-2.ensures in
    subst (λ (list : List WholeStream). AreListed streams list) (sym two) (whole-listed c.args.self.now streams h)
