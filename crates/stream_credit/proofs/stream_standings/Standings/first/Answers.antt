use Rattle.stream_credit.proofs.Words.{sym, ap, ◌∙◌, subst, Stream, AreQuiet, stream_said, stream_after, frame_step}
use Rattle.stream_credit.proofs.stream_standings.Standings.first.Goals as goal

pub returns-then-is_opening : goal.returns-then-is_opening
returns-then-is_opening c = λ next e idle was.
    let by = c.opened.ensures next e in
    let initial = c.args.initial.now in
    let step = frame_step c.args.frame.now in record {
      said = subst (λ (entry : Stream). AreQuiet (stream_said c.args.stream initial entry step)) (sym was) by.said;
      after = by.after ∙ ap (λ (entry : Stream). stream_after c.args.stream initial entry step) (sym was);
    }
