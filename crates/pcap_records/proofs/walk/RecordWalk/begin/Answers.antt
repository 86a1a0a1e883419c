use Rattle.std.proofs.Common.{refl}
use Rattle.pcap_records.proofs.Walking.{fed_header}
use Rattle.pcap_records.proofs.walk.RecordWalk.begin.Goals as goal

pub returns-in-Ok-clause-ok : goal.returns-in-Ok-clause-ok
returns-in-Ok-clause-ok g c =
    let cursor = c.in-Ok.cursor in
    fed_header g.V.RecordVisitor.after c.args.front.now cursor _ c.in-Ok.ensures.ok c.in-Ok.ensures.at refl
    c.new.ensures.items (c.requires cursor.link)
