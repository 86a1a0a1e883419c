use Rattle.stop_desk.proofs.CrewDone.{done}
use Rattle.stop_desk.proofs.crews.crew.Goals as goal

pub returns : goal.returns
returns g c = rw c.close.ensures.lists (done (g.P.Round.makes c.args.plan.now) (g.P.Round.jobs c.args.plan.now)
    c.args.round _ c.args.desk.id c.requires.connections c.in_ok-parts.parts.items c.in_ok-parts.last
    c.close.result.words c.in_ok-parts.ensures (rw c.close.ensures.lists at c.close.ensures.settled))
