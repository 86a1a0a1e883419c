use Rattle.tcp_streams.proofs.Words.{past_of}
use Rattle.tcp_streams.proofs.{Belongings.shown-connections, Joins.connections-map, Numbered.connections-members}
use Rattle.tcp_streams.proofs.membership.connections.Goals as goal

pub returns-clause-opened : goal.returns-clause-opened
returns-clause-opened c =
    let packets = c.args.packets.now in
    shown-connections packets _ (connections-map (past_of packets) _ c.in_ok-take_in.ensures.1)

pub returns-clause-members : goal.returns-clause-members
returns-clause-members c =
    let packets = c.args.packets.now in
    connections-members packets _ c.requires.numbered
    (connections-map (past_of packets) _ c.in_ok-take_in.ensures.1)
