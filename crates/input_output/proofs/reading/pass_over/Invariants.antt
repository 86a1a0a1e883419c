use Rattle.std.proofs.Common.{◌≡◌, ◌-◌, ◌+◌, ◌<◌, length}
use Rattle.input_output.specs.Account.{kept}
use Rattle.input_output.specs.declared.capture_reader.ReadState.TheVariants.{Open}
use Rattle.input_output.specs.code.Reading.{HasPassedOver, IsSound}
use Rattle.input_output.proofs.reading.pass_over.Given as goal

abbrev pub invariant-loop-buffer : goal.invariant-loop-buffer
invariant-loop-buffer g l = record {
  sound : IsSound l.reader;
  room : 0 < length l.buffer;
  kept : l.reader.bytes ≡ l.initial.reader.bytes;
  state : l.reader.state ≡ Open;
  bytes : HasPassedOver g.R.Read.remaining l.initial.reader l.reader;
}

abbrev pub decreases-loop-buffer : goal.decreases-loop-buffer
decreases-loop-buffer g l = 2147483648 - (length (kept l.reader) + l.reader.passed)
