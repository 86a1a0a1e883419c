use Rattle.stop_desk.proofs.{CrewDone.last_stops-is, Words.length, Words.◌≡◌}
use Rattle.stop_desk.proofs.Words.{[], arith, final_stop, sym, ◌++◌, ◌∙◌, ◌∷◌}
use Rattle.std.proofs.lemmas.List.FromFn.{map-range_with_len_more}
use Rattle.stop_desk.proofs.settling.stops_of.Goals as goal

pub loop-connection-preserved : goal.loop-connection-preserved
loop-connection-preserved c =
    c.in_ok-push.ensures.items ∙ (λ i. c.loop-connection.invariant i ++ c.stop.ensures i ∷ [])
    ∙ sym (map-range_with_len_more (final_stop c.args.closed.now) 0 c.loop-connection.connection _ (omega arith))

pub returns : goal.returns
returns c =
    let all : c.loop-connection.connection ≡ length c.args.opening.now = omega arith in
    rw all at c.loop-connection.invariant ∙ last_stops-is c.args.closed.now _ c.requires
