use Rattle.std.proofs.Common.{subst}
use Rattle.pcap_records.specs.FileHeader.{number_of}
use Rattle.pcap_records.specs.code.Walk.{HasGot}
use Rattle.pcap_records.proofs.Fronts.{behind, reads_first}
use Rattle.pcap_records.proofs.Walking.{topped_up}
use Rattle.pcap_records.proofs.walk.top_up.Goals as goal

pub returns : goal.returns
returns c =
    topped_up (number_of c.args.endian) (reads_first c.args.endian) c.args.begun.now.items c.args.more.now
    c.add_wanted.new.begun.items c.add_wanted-2.new.begun.items c.in_ok-header.header c.in_ok-body.body c.requires
    c.in_ok-header.ensures
    (subst (λ rest. HasGot (number_of c.args.endian) c.add_wanted.new.begun.items rest c.add_wanted-2.new.begun.items
    c.in_ok-body.body) (behind c.in_ok-header.header c.args.more.now) c.in_ok-body.ensures)
