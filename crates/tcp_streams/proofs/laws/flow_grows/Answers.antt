use Rattle.tcp_streams.proofs.GrowthLaws.{flow-grows, new-bytes-arrive, source-grows, source-stays}
use Rattle.tcp_streams.proofs.laws.flow_grows.Goals as goal

pub returns : goal.returns
returns c = record {
  source_grows = source-grows;
  source_stays = source-stays;
  new_bytes_arrive = new-bytes-arrive;
  flow_grows = flow-grows;
}
