use Rattle.tcp_streams.proofs.{Handing.handed, MadeFlows.have-flows}
use Rattle.tcp_streams.proofs.connection_flows.ConnectionFlows.finish.Goals as goal

pub replay-requires : goal.replay-requires
replay-requires g c =
    let (opening, sent, last, h) = c.requires in (h.taken, h.low, h.waiting, h.are_taken, h.are_waiting, h.follow)

pub returns-clause-handed : goal.returns-clause-handed
returns-clause-handed g c = λ opening sent last h.
    handed g.V.GrowthVisitor.after opening sent last c.args.self h c.replay.new.both c.in_ok-replay.ensures.same
    (c.in_ok-replay.ensures.taken h.taken h.low h.waiting h.are_taken h.are_waiting h.follow)
    c.flow_end-client.result c.server_end-server_number.result.0 c.server_end-server_number.result.1
    c.flow_end-client.ensures c.server_end-server_number.ensures

pub returns-clause-flows : goal.returns-clause-flows
returns-clause-flows g c = λ opening sent last h.
    have-flows g.V.GrowthVisitor.after c.args.alloc opening sent _ (returns-clause-handed g c opening sent last h)
