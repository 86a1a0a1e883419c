use Rattle.pcap_records.proofs.Fronts.{next_by_header}
use Rattle.std.proofs.Common.{arith}
use Rattle.pcap_records.proofs.rows.next_record.Goals as goal

pub returns : goal.returns
returns g c =
    rw (← c.requires.order) (next_by_header g.T.ByteOrder.number_of c.args.format.unit c.args.at c.args.bytes.now
    c.record_behind.result (omega arith) c.record_behind.ensures.found c.record_behind.ensures.time
    c.record_behind.ensures.none)
