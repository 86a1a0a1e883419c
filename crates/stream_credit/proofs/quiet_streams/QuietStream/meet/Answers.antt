use Rattle.stream_credit.proofs.{QuietStreams.ahead-told, Words.OnTrue_at, Words.refl, Words.◌∷◌}
use Rattle.stream_credit.proofs.quiet_streams.QuietStream.meet.Goals as goal

pub meet_frame-self-requires-clause-ahead : goal.meet_frame-self-requires-clause-ahead
meet_frame-self-requires-clause-ahead c =
    let (all, rest, h) = c.requires in
    let met = c.if-not-meet_changes.ensures.ahead c.args.stream all (c.args.frame.now ∷ rest) refl in
    (all, rest, met (h c.if-not-self.false))

pub returns : goal.returns
returns c = λ all rest h quiet.
    let met = c.if-not-meet_changes.ensures.ahead c.args.stream all (c.args.frame.now ∷ rest) refl
    (h c.if-not-self.false) in
    ahead-told (OnTrue_at quiet c.meet_frame-self.ensures all rest met) _
