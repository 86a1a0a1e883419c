use Rattle.conn_scan.proofs.Terms.{summary_room, rest_fits}
use Rattle.conn_scan.specs.code.CreditLaws.{first_fit}
use Rattle.conn_scan.proofs.credits.CreditSummary.join.Goals as goal

pub with-requires : goal.with-requires
with-requires c =
    let (credit, mine, theirs, fit, is_mine, is_theirs) = c.requires.fits in
    record {
      mine = summary_room credit mine c.args.self.now (first_fit credit mine theirs fit) is_mine;
      later = summary_room _ theirs c.args.later.now (rest_fits credit mine theirs fit) is_theirs;
    }
