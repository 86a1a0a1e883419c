use Rattle.tcp_streams.proofs.Words.{◌∙◌, ◌++◌, ◌∷◌, [], ap, sym}
use Rattle.tcp_streams.proofs.{Replay.payloads-push, StagingSteps.segments-push}
use Rattle.tcp_streams.proofs.waiting.WaitingSegments.push.Goals as goal

pub returns : goal.returns
returns c = λ sent h.
    let s = c.args.segment.now in
    let payload = c.args.payload.now in record {
      segments_are = c.in_ok-push.ensures.items ∙ ap (λ l. l ++ s ∷ []) h.segments_are
          ∙ sym (segments-push sent s payload);
      bytes_are = c.in_ok-extend_from_slice.ensures.items ∙ ap (λ l. l ++ payload) h.bytes_are
          ∙ sym (payloads-push sent (s, payload));
    }
