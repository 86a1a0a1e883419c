use Rattle.std.proofs.Common.{rules, take}
use Rattle.input_output.proofs.Kept.{passed_more}
use Rattle.input_output.proofs.reading.pass_over.Goals as goal

pub loop-buffer-preserved : goal.loop-buffer-preserved
loop-buffer-preserved g c =
    let bytes = passed_more g.R.Read.remaining c.args.reader.now c.loop-buffer.reader c.pass_once.new.self
    (take c.in_ok-pass_once.field-0 c.pass_once.new.buffer) c.in_ok-pass_once.field-0 c.loop-buffer.invariant.bytes
    c.in_ok-pass_once.ensures.count c.in_ok-pass_once.ensures.read in search (rules, bytes)

pub returns-then-branch-eq0-clause-bytes : goal.returns-then-branch-eq0-clause-bytes
returns-then-branch-eq0-clause-bytes g c =
    passed_more g.R.Read.remaining c.args.reader.now c.loop-buffer.reader c.pass_once.new.self
    (take c.in_ok-pass_once.field-0 c.pass_once.new.buffer) c.in_ok-pass_once.field-0 c.loop-buffer.invariant.bytes
    c.in_ok-pass_once.ensures.count c.in_ok-pass_once.ensures.read
