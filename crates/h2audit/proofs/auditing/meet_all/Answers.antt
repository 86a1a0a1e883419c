use Rattle.h2audit.proofs.MetAudits.{fed-end}
use Rattle.h2audit.proofs.auditing.meet_all.Goals as goal

pub returns-in-Ok-feed_rest-clause-met : goal.returns-in-Ok-feed_rest-clause-met
returns-in-Ok-feed_rest-clause-met g c =
    let capture = c.args.capture.now in
    let fed = c.in-Ok-feed_rest.ensures in
    let ended = c.end.ensures in
    fed-end g.V.ConnectionVisitor.after capture c.end.result (ended.taken capture fed) (ended.met capture fed)
    (ended.refused capture fed) (ended.err capture fed)
