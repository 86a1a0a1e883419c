use Rattle.stream_credit.proofs.{QuietStreams.quiet-to-end, Words.OnTrue_at, Words.OnTrue_from}
use Rattle.stream_credit.proofs.quiet_streams.QuietStream.finish.Goals as goal

pub returns-then-self : goal.returns-then-self
returns-then-self c = λ all h.
    OnTrue_from c.meet_changes-self.result _ (λ quiet.
    let met = OnTrue_at quiet c.meet_changes-self.ensures in
    quiet-to-end (met.ahead c.args.stream all _ tt (h c.if-self.true)) met.passed)
