use Rattle.stream_credit.proofs.Words.{drop_more}
use Rattle.quiet_pass.proofs.whole_streams.stream_at.Goals as goal

pub returns : goal.returns
returns c = drop_more c.args.list.now c.args.at _ c.requires
