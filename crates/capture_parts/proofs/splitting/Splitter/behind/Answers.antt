use Rattle.capture_parts.proofs.Standing.{none_dealt}
use Rattle.capture_parts.proofs.splitting.Splitter.behind.Goals as goal

pub returns-clause-none : goal.returns-clause-none
returns-clause-none g c = rw c.behind.ensures.parts (none_dealt g.W.Write.contents c.behind.result.dealer
    c.args.parts.items c.behind.ensures.number c.behind.ensures.left)
