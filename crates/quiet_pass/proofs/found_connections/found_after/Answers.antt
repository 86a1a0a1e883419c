use Rattle.std.proofs.Common.{◌∙◌}
use Rattle.quiet_pass.proofs.FoundLemmas.{all-timed}
use Rattle.quiet_pass.proofs.found_connections.found_after.Goals as goal

pub returns : goal.returns
returns c = λ client server frames started all h.
    let law = c.streams_are_those_met.ensures in record {
      frames = frames;
      started = started;
      http2 = all.http2;
      orderly = all.orderly;
      count = all.counted;
      findings = c.cut_timed_at_stop.ensures ∙ all-timed law.met law.once h all.orderly;
    }
