use Rattle.stream_credit.proofs.Words.{ap, ◌+◌, ◌∙◌}
use Rattle.stream_credit.proofs.quiet_streams.QuietStream.meet_change.Goals as goal

pub returns : goal.returns
returns c =
    let both = c.in-Some-Some in record {
      moved = c.after_change.ensures both.next both.is-0;
      met = c.kept_met.ensures both.met both.is-1 ∙ ap (λ n. n + 1) c.get.ensures;
    }
