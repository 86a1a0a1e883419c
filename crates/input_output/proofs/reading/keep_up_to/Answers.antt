use Rattle.input_output.proofs.Kept.{read_on}
use Rattle.input_output.proofs.reading.keep_up_to.Goals as goal

pub loop-read-preserved : goal.loop-read-preserved
loop-read-preserved g c =
    read_on g.R.Read.remaining c.args.limit c.args.reader.now c.loop-read.reader c.read_once-read.new.self
    c.loop-read.read c.read_once-read.result c.loop-read.invariant (c.is_open_below.ensures.0 c.loop-read-test.true).0
    c.read_once-read.ensures
