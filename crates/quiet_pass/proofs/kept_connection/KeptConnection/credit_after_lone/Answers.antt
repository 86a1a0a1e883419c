use Rattle.stream_credit.proofs.Words.{◌≡◌, nat_lt, false, side_of, arith, nat_tests}
use Rattle.quiet_pass.proofs.kept_connection.KeptConnection.credit_after_lone.Goals as goal

pub returns : goal.returns
returns c = λ credit e.
    let frame = c.args.frame.now in
    let old = c.args.self.now in
    let short : nat_lt (side_of frame.side old.state.limit) frame.length ≡ false =
    grind (arith, nat_tests, c.if-of-get.false, c.of.ensures, c.get.ensures) in
    record { short = short; moved = c.credits_after.ensures credit e }
