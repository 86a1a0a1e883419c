use Rattle.quiet_pass.proofs.SaidLemmas.{entry-added, entry-skipped}
use Rattle.quiet_pass.proofs.passes.QuietPass.say_entry.Goals as goal

pub returns-then-stream-eq0 : goal.returns-then-stream-eq0
returns-then-stream-eq0 c = entry-skipped c.args.entry.now c.args.found.now.items c.if-stream-eq0.true

pub returns : goal.returns
returns c = entry-added c.if-stream-eq0.false c.in_ok-say_stream.ensures.said c.in_ok-say_stream.ensures.after
