use Rattle.std.proofs.Common.{◌<◌, arith}
use Rattle.std.proofs.lemmas.Bool.{OnTrue_from, ltb-true}
use Rattle.audit_terms.proofs.KeySearch.{past_apart}
use Rattle.audit_terms.proofs.stream_rows.is_past.Goals as goal

pub returns-in-Some : goal.returns-in-Some
returns-in-Some g c = OnTrue_from _ _ (λ past.
    let stream_of = g.R.OfStream.stream_of in
    let last = c.in-Some.row.now in
    let less = ltb-true c.stream.result c.args.stream past in
    let below : stream_of last < c.args.stream = omega (arith, less, c.stream.ensures) in
    past_apart stream_of c.args.rows.now c.args.stream last c.in-Some.ensures.item.3 below)
