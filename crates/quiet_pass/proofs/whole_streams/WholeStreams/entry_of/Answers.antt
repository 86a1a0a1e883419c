use Rattle.stream_credit.proofs.Words.{◌∙◌}
use Rattle.quiet_pass.proofs.WholeLemmas.{found-among}
use Rattle.quiet_pass.proofs.whole_streams.WholeStreams.entry_of.Goals as goal

pub returns-in-Some : goal.returns-in-Some
returns-in-Some c = rw c.in-Some.is at (found-among c.args.self.now.list.items c.args.stream _ c.find.ensures)

pub returns-in-None : goal.returns-in-None
returns-in-None c =
    c.idle.ensures ∙ rw c.in-None.is at (found-among c.args.self.now.list.items c.args.stream _ c.find.ensures)
