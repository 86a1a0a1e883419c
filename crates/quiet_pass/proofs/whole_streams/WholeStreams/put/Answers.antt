use Rattle.std.proofs.Common.{not, rules, ◌==◌, ◌∙◌}
use Rattle.std.proofs.lemmas.Fn.{filter_same}
use Rattle.stream_credit.proofs.Words.{ne_eqb, refl}
use Rattle.quiet_pass.specs.declared.whole_streams.WholeStream.{WholeStream}
use Rattle.quiet_pass.proofs.whole_streams.WholeStreams.put.Goals as goal

pub returns-in_ok-insert : goal.returns-in_ok-insert
returns-in_ok-insert c =
    let kept = filter_same _ (λ (one : WholeStream). not (one.stream == c.args.stream)) _ (λ x b f k. search rules) _ _
    c.retain.ensures.filtered in
    rw (ne_eqb c.args.stream 0 c.if-stream-ne0.true) (c.in_ok-insert.ensures.items ∙ rw kept refl)
