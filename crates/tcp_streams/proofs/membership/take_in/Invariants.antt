use Rattle.tcp_streams.proofs.Words.{take, past_of, IsTableOf}
use Rattle.tcp_streams.specs.code.Table.{AreConnectionsOf}
use Rattle.tcp_streams.proofs.membership.take_in.Given as goal

-- the table shows the segments of the packets so far, and so do the connections
abbrev pub invariant-loop-index : goal.invariant-loop-index
invariant-loop-index l = IsTableOf (past_of (take l.index l.packets)) l.table
    × AreConnectionsOf (past_of (take l.index l.packets)) l.opened.items
