use Rattle.pcap_records.proofs.Growing.{reading_grows_lem}
use Rattle.pcap_records.proofs.laws.reading_grows.Goals as goal

pub returns : goal.returns
returns c = reading_grows_lem
