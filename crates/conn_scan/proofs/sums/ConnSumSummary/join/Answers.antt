use Rattle.conn_scan.proofs.Terms.{◌++◌, map, map-append, Client, Server, credit_change}
use Rattle.conn_scan.proofs.SumLemmas.{side_fit, side_summed}
use Rattle.conn_scan.proofs.sums.ConnSumSummary.join.Goals as goal

pub join-requires : goal.join-requires
join-requires c =
    let (state, mine, theirs, fit, is_mine, is_theirs) = c.requires.fits in
    let both = rw map-append at (side_fit Client state (mine ++ theirs) fit) in
    let first = side_summed Client mine c.args.self.now is_mine in
    let later = side_summed Client theirs c.args.later.now is_theirs in
    record { fits = (_, map (credit_change Client) mine, map (credit_change Client) theirs, both, first, later) }

pub join-requires-2 : goal.join-requires-2
join-requires-2 c =
    let (state, mine, theirs, fit, is_mine, is_theirs) = c.requires.fits in
    let both = rw map-append at (side_fit Server state (mine ++ theirs) fit) in
    let first = side_summed Server mine c.args.self.now is_mine in
    let later = side_summed Server theirs c.args.later.now is_theirs in
    record { fits = (_, map (credit_change Server) mine, map (credit_change Server) theirs, both, first, later) }
