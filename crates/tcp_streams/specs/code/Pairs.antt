-- Pairs of endpoints, as the table keeps them. No public clause cites these.
use Rattle.std.specs.Prelude.{ℕ, ◌+◌, ◌*◌, ◌^◌, Bool, ◌&&◌, ◌||◌, ◌==◌, nat_lt, if◌then◌else◌}
use Rattle.packet_heads.specs.declared.packets.Endpoint.{Endpoint}
use Rattle.packet_heads.specs.declared.packets.Segment.{Segment}
use Rattle.tcp_streams.specs.declared.pair.Pair.{Pair}
use Rattle.tcp_streams.specs.Pair.{is_endpoint}

-- by address, then by port
abbrev pub is_before : Endpoint → Endpoint → Bool
is_before a b = nat_lt a.address b.address || ((a.address == b.address) && nat_lt a.port b.port)

-- two endpoints without order: the lesser is written first
abbrev pub pair_with : Endpoint → Endpoint → Pair
pair_with from to =
    if is_before to from
    then record { low = to; high = from }
    else record { low = from; high = to }

-- the two endpoints of a segment
abbrev pub pair_of : Segment → Pair
pair_of s = pair_with s.from s.to

-- the same two endpoints
abbrev pub is_pair : Pair → Pair → Bool
is_pair p q = is_endpoint p.low q.low && is_endpoint p.high q.high

-- the segment is of the pair, in one direction or the other
abbrev pub is_of : Pair → Segment → Bool
is_of p s = is_pair p (pair_of s)

-- an endpoint's address and port in one word, for the hash
abbrev pub word_of : Endpoint → ℕ
word_of e = e.address * 2 ^ 16 + e.port
