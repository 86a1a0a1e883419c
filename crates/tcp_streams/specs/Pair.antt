-- Who speaks to whom (RFC 9293, 3.3.1 and 4: a connection is named by its two sockets).
use Rattle.std.specs.Prelude.{Bool, ◌&&◌, ◌||◌, ◌==◌}
use Rattle.packet_heads.specs.declared.packets.Endpoint.{Endpoint}
use Rattle.packet_heads.specs.declared.packets.Segment.{Segment}

-- the same address and the same port
abbrev pub is_endpoint : Endpoint → Endpoint → Bool
is_endpoint a b = (a.address == b.address) && (a.port == b.port)

-- the two segments have the same two ends, in one direction or the other
abbrev pub is_same_pair : Segment → Segment → Bool
is_same_pair s t =
    (is_endpoint s.from t.from && is_endpoint s.to t.to) || (is_endpoint s.from t.to && is_endpoint s.to t.from)
