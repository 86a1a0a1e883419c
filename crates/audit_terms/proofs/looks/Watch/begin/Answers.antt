use Rattle.audit_terms.proofs.Watching.{begins}
use Rattle.audit_terms.proofs.looks.Watch.begin.Goals as goal

pub returns : goal.returns
returns g c = λ whole numbers fall.
    begins g.L.Look.answers c.args.look.now whole c.look.new.self numbers c.look.result c.look.ensures fall
