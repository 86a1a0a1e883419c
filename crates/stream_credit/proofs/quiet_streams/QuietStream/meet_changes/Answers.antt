use Rattle.stream_credit.proofs.{QuietStreams.ahead-passed, Words.ArePassed, Words.sym, Words.◌∙◌}
use Rattle.stream_credit.proofs.quiet_streams.QuietStream.meet_changes.Goals as goal

pub returns : goal.returns
returns c =
    let passed : ArePassed c.args.number c.args.changes.now c.args.self.now.met c.in-Some.met =
    rw (c.kept_met.ensures _ c.in-Some.is, ← c.get.ensures) c.passed.ensures in
    record {
      passed = passed.from;
      ahead = λ stream all rest s h. ahead-passed s (sym c.is_live.ensures ∙ c.if-is_live.false) passed h;
    }
