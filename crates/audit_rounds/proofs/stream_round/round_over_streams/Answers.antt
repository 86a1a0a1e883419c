use Rattle.audit_rounds.proofs.Words.{IfOk-weaker}
use Rattle.audit_rounds.proofs.StreamRounds.{are-after}
use Rattle.audit_rounds.proofs.stream_round.round_over_streams.Goals as goal

pub closed-requires-clause-parts : goal.closed-requires-clause-parts
closed-requires-clause-parts g c =
    rw c.as_slice-2.ensures.value (rw c.as_slice.ensures.value at c.in_ok-settled.ensures.inside)

pub gathered-requires : goal.gathered-requires
gathered-requires g c =
    rw c.in_ok-all.ensures.number (rw c.as_slice.ensures.value at c.in_ok-settled.ensures.inside)

pub returns : goal.returns
returns g c =
    let division = c.args.division.now in
    IfOk-weaker c.gathered.result _ _ (λ all taken. are-after division.frames_shown division.groups
    division.some_groups c.args.connections.items c.requires.ready c.in_ok-settled.settled
    (rw c.as_slice.ensures.value at c.in_ok-settled.ensures) c.in_ok-all.all.items all.items
    (rw (c.as_slice-2.ensures.value, c.as_slice-3.ensures.value) at c.in_ok-all.ensures) taken) c.gathered.ensures
