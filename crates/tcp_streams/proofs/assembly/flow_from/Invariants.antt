use Rattle.tcp_streams.proofs.Words.{take, filter_map, joined, member_piece, at}
use Rattle.tcp_streams.proofs.LaidFlow.{IsLaid}
use Rattle.tcp_streams.proofs.assembly.flow_from.Given as goal

-- the pieces of the members so far are laid out
abbrev pub invariant-loop-member : goal.invariant-loop-member
invariant-loop-member l =
    IsLaid l.capture (at (filter_map (member_piece l.of) (take l.member-index l.of.connection.now.members.items)))
    l.side (joined l.pieces.items) l.arrivals.items
