use Rattle.std.proofs.{Common.ap, Common.arith, Common.length, lemmas.List.length-map}
use Rattle.stop_desk.{proofs.CrewDone.has-settled, proofs.CrewDone.in-round, specs.code.Stop.stop_word}
use Rattle.stop_desk.proofs.settling.settle.Goals as goal

pub returns-clause-settled : goal.returns-clause-settled
returns-clause-settled g c =
    has-settled (g.P.Round.makes c.args.plan.now) (g.P.Round.jobs c.args.plan.now) c.in_ok-desk.desk.id
    c.args.round c.in_ok-parts.parts.items c.in_ok-parts.closed c.in_ok-parts.ensures c.args.stops.now _
    c.in_ok-desk.ensures.stops c.put_in_job_order.ensures.same c.put_in_job_order.ensures.sorted c.in_ok-stops.ensures

pub returns-clause-round : goal.returns-clause-round
returns-clause-round g c = λ part is.
    in-round (g.P.Round.makes c.args.plan.now) (g.P.Round.jobs c.args.plan.now) c.in_ok-desk.desk.id c.args.round
    c.in_ok-parts.parts.items c.in_ok-parts.closed c.in_ok-parts.ensures _ c.put_in_job_order.ensures.same part is

pub stops_of-requires : goal.stops_of-requires
stops_of-requires g c = rw (c.in_ok-parts.ensures.desk_is, c.in_ok-desk.ensures.words, length-map) (omega arith)

pub crew-requires-clause-connections : goal.crew-requires-clause-connections
crew-requires-clause-connections g c = λ κs within k d lt. omega (
  arith,
  ap length c.in_ok-desk.ensures.words,
  length-map c.args.stops.now stop_word,
  c.requires.connections k d lt,
)
