use Rattle.quiet_pass.proofs.StreamLemmas.{none-kept}
use Rattle.quiet_pass.proofs.all_streams.AllStreams.new.Goals as goal

pub returns : goal.returns
returns c = none-kept c.new.result c.new.ensures.opened c.new.ensures.promised c.new.ensures.shifted
