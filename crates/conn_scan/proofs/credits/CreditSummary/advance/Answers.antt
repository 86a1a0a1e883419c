use Rattle.conn_scan.proofs.Terms.{summary_room}
use Rattle.conn_scan.proofs.credits.CreditSummary.advance.Goals as goal

pub sum_with-requires-clause-sum : goal.sum_with-requires-clause-sum
sum_with-requires-clause-sum c =
    let (changes, fit, is) = c.requires.fits in
    (summary_room c.args.credit.now changes c.args.changes.now fit is).sum
