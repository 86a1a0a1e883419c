use Rattle.stream_credit.proofs.Words.{List, ap, drop_more, map}
use Rattle.quiet_pass.specs.code.WholeStreams.{whole_of}
use Rattle.quiet_pass.specs.declared.opened_rows.Row.{Row}
use Rattle.quiet_pass.proofs.whole_streams.whole_at.Goals as goal

pub returns : goal.returns
returns c =
    rw c.whole.ensures
    (ap (λ (rows : List Row). map (whole_of c.args.shift.now) rows) (drop_more c.args.rows.now c.args.at _ c.requires))
