use Rattle.conn_scan.proofs.Terms.{Client, Server}
use Rattle.conn_scan.proofs.SumLemmas.{side_fit, side_summed}
use Rattle.conn_scan.proofs.sums.ConnSumSummary.advance.Goals as goal

pub advance-requires : goal.advance-requires
advance-requires c =
    let (items, fit, is) = c.requires.fits in
    record { fits = (_, side_fit Client c.args.now.now items fit, side_summed Client items c.args.items.now is) }

pub advance-requires-2 : goal.advance-requires-2
advance-requires-2 c =
    let (items, fit, is) = c.requires.fits in
    record { fits = (_, side_fit Server c.args.now.now items fit, side_summed Server items c.args.items.now is) }
