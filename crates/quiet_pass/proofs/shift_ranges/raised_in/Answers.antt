use Rattle.quiet_pass.proofs.ShiftLemmas.{wider}
use Rattle.quiet_pass.proofs.shift_ranges.raised_in.Goals as goal

pub returns-in-None-clause-client : goal.returns-in-None-clause-client
returns-in-None-clause-client c = wider c.args.entry.now.window.client c.requires.client

pub returns-in-None-clause-server : goal.returns-in-None-clause-server
returns-in-None-clause-server c = wider c.args.entry.now.window.server c.requires.server
