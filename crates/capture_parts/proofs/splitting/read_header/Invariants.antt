use Rattle.capture_parts.proofs.Terms.{Consumes, length, take, ◌-◌, ◌≤◌}
use Rattle.capture_parts.proofs.splitting.read_header.Given as goal

abbrev pub invariant-loop-filled : goal.invariant-loop-filled
invariant-loop-filled g l = record {
  within : l.filled ≤ length l.header;
  bytes : Consumes (g.R.Read.remaining l.initial.reader) (g.R.Read.remaining l.reader) (take l.filled l.header);
}

abbrev pub decreases-loop-filled : goal.decreases-loop-filled
decreases-loop-filled g l = length l.initial.header - l.filled
