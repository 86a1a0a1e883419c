use Rattle.pcap_records.proofs.Unique.{one_reading_lem}
use Rattle.pcap_records.proofs.laws.one_reading.Goals as goal

pub returns : goal.returns
returns c = one_reading_lem
