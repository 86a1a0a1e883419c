use Rattle.stream_credit.proofs.quiet_moves.credit_after_move.Goals as goal

pub returns-in-Some : goal.returns-in-Some
returns-in-Some c = λ after e. record {
  before = c.in-Some.before;
  live = c.in-Some.is;
  raised = c.raised.ensures after e;
}
