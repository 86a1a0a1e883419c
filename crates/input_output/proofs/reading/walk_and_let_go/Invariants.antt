use Rattle.std.proofs.Common.{◌≡◌, ◌-◌, ◌+◌, length, vec_len}
use Rattle.input_output.specs.Account.{kept}
use Rattle.input_output.proofs.Kept.{IsLettingGo}
use Rattle.input_output.proofs.reading.walk_and_let_go.Given as goal

abbrev pub invariant-loop-alloc : goal.invariant-loop-alloc
invariant-loop-alloc g l = record {
  on : IsLettingGo g.W.FrontWalk.stands g.R.Read.remaining l.initial.reader l.reader l.walk;
  room : vec_len l.buffer ≡ 262144;
}

abbrev pub decreases-loop-alloc : goal.decreases-loop-alloc
decreases-loop-alloc g l = 2147483648 - (length (kept l.reader) + l.reader.passed)
