use Rattle.std.proofs.Common.{subst}
use Rattle.tcp_streams.proofs.Words.{◌≡◌, ◌∙◌, ◌++◌, ◌∷◌, [], ap, append-nil, append_assoc, refl, sym, take}
use Rattle.tcp_streams.proofs.Words.{take_all, length, ◌≤◌, ◌+◌, arith, length-map}
use Rattle.tcp_streams.specs.code.{Flows.last_of, Side.IsSent, Side.Sent, Taken.AreTaken}
use Rattle.tcp_streams.proofs.{Replay.is-at, Both.same-more}
use Rattle.tcp_streams.proofs.connection_flows.replay_each.Goals as goal

pub loop-segment-init : goal.loop-segment-init
loop-segment-init g c = record {
  same = record { client = refl; client_number = refl; server_number = refl };
  taken = λ taken low sent h w follow. (
    c.as_slice-rest.ensures.value ∙ w.bytes_are,
    subst (λ l. AreTaken g.V.GrowthVisitor.after l low c.args.both.now) (sym (append-nil taken)) h,
  );
}

pub overflow_sub-segment : goal.overflow_sub-segment
overflow_sub-segment g c =
    let (taken, low, sent, h, w, follow) = c.requires in
    let rest = c.loop-segment.invariant.taken taken low sent h w follow in
    (is-at taken low sent c.args.waiting.now c.loop-segment.segment-index c.segment-item.result
    c.loop-segment.rest.now w follow
    (rw c.deref-segment-items.ensures.value at c.loop-segment-test.true)
    (rw c.deref-segment-items.ensures.value at c.segment-item.is) rest.0).is_sent.ordered

pub split_at-requires : goal.split_at-requires
split_at-requires g c =
    let (taken, low, sent, h, w, follow) = c.requires in
    let rest = c.loop-segment.invariant.taken taken low sent h w follow in
    (is-at taken low sent c.args.waiting.now c.loop-segment.segment-index c.segment-item.result
    c.loop-segment.rest.now w follow
    (rw c.deref-segment-items.ensures.value at c.loop-segment-test.true)
    (rw c.deref-segment-items.ensures.value at c.segment-item.is) rest.0).fits

pub take-requires-clause-sent : goal.take-requires-clause-sent
take-requires-clause-sent g c =
    let (taken, low, sent, h, w, follow) = c.requires in
    let rest = c.loop-segment.invariant.taken taken low sent h w follow in
    let here = is-at taken low sent c.args.waiting.now c.loop-segment.segment-index c.segment-item.result
    c.loop-segment.rest.now w follow (rw c.deref-segment-items.ensures.value at c.loop-segment-test.true)
    (rw c.deref-segment-items.ensures.value at c.segment-item.is) rest.0 in
    subst (λ payload. IsSent c.segment-item.result payload) (sym (c.split_at.ensures.front ∙ here.front)) here.is_sent

pub take-requires-clause-next : goal.take-requires-clause-next
take-requires-clause-next g c =
    let (taken, low, sent, h, w, follow) = c.requires in
    let k = c.loop-segment.segment-index in
    let rest = c.loop-segment.invariant.taken taken low sent h w follow in
    let here = is-at taken low sent c.args.waiting.now k c.segment-item.result c.loop-segment.rest.now w follow
    (rw c.deref-segment-items.ensures.value at c.loop-segment-test.true)
    (rw c.deref-segment-items.ensures.value at c.segment-item.is) rest.0 in (
      taken ++ take k sent,
      last_of low (take k sent),
      rest.1,
      here.next,
    )

pub loop-segment-preserved : goal.loop-segment-preserved
loop-segment-preserved g c = record {
  same = same-more c.args.both.now c.loop-segment.both c.take.new.self c.loop-segment.invariant.same
      c.in_ok-take.ensures.same;
  taken = λ taken low sent h w follow.
      let after = g.V.GrowthVisitor.after in
      let k = c.loop-segment.segment-index in
      let s = c.segment-item.result in
      let rest = c.loop-segment.invariant.taken taken low sent h w follow in
      let here = is-at taken low sent c.args.waiting.now k s c.loop-segment.rest.now w follow
      (rw c.deref-segment-items.ensures.value at c.loop-segment-test.true)
      (rw c.deref-segment-items.ensures.value at c.segment-item.is) rest.0 in
      let now = c.in_ok-take.ensures.taken (taken ++ take k sent) (last_of low (take k sent)) rest.1 here.next in
      let front : c.split_at.result.0.now ≡ here.payload = c.split_at.ensures.front ∙ here.front in
      let all : (taken ++ take k sent) ++ (s, c.split_at.result.0.now) ∷ [] ≡ taken ++ take (k + 1) sent =
      append_assoc taken (take k sent) ((s, c.split_at.result.0.now) ∷ [])
      ∙ ap (λ payload. taken ++ (take k sent ++ (s, payload) ∷ [])) front
      ∙ ap (λ l. taken ++ l) (sym here.more) in (
        c.split_at.ensures.back ∙ here.back,
        subst (λ last. AreTaken after (taken ++ take (k + 1) sent) last c.take.new.self) (sym here.last)
            (subst (λ l. AreTaken after l s.rec c.take.new.self) all now),
      );
}

pub returns-clause-taken : goal.returns-clause-taken
returns-clause-taken g c = λ taken low sent h w follow.
    let after = g.V.GrowthVisitor.after in
    let k = c.loop-segment.segment-index in
    let (rest, now) = c.loop-segment.invariant.taken taken low sent h w follow in
    let long : length sent ≤ k =
    omega (
      arith,
      rw c.deref-segment-items.ensures.value at c.loop-segment-test.false,
      ap length w.segments_are,
      length-map sent (λ (one : Sent). one.0),
    ) in
    let whole : take k sent ≡ sent = take_all k sent long in
    subst (λ l. AreTaken after (taken ++ l) (last_of low l) c.loop-segment.both) whole now

pub returns-clause-same : goal.returns-clause-same
returns-clause-same g c = c.loop-segment.invariant.same
