use Rattle.stream_credit.proofs.{QuietStreams.ahead-frame, Words.refl}
use Rattle.stream_credit.proofs.quiet_streams.QuietStream.meet_frame.Goals as goal

pub standings_after-requires : goal.standings_after-requires
standings_after-requires c = let (all, rest, h) = c.requires.ahead in h.met

pub returns : goal.returns
returns c = λ all rest h.
    ahead-frame h ((rw c.get.ensures at c.in_default.ensures) c.requires.passed)
    (c.standings_after.ensures c.in-Some-standings_after.next c.in-Some-standings_after.is) refl
