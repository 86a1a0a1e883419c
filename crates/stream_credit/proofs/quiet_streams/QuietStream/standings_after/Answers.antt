use Rattle.stream_credit.proofs.quiet_streams.QuietStream.standings_after.Goals as goal

pub returns-then-is_idle : goal.returns-then-is_idle
returns-then-is_idle c = λ next e.
    rw (rw c.get.ensures at c.initial_at-initial.ensures) at
    (c.first.ensures next e c.args.self.now.standings c.if-is_idle.ensures)

pub returns : goal.returns
returns c = λ next e. c.met.ensures next e _
