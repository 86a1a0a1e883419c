-- The endpoints that the front of a packet names (RFC 791, 3.1; RFC 9293, 3.1), and the part that a record goes to.
use Rattle.std.specs.Prelude.{ℕ, ◌+◌, ◌*◌, ◌/◌, ◌%◌, ◌^◌, ◌==◌, ◌&&◌, Bool, not, nat_lt, if◌then◌else◌, Option, Some}
use Rattle.std.specs.Prelude.{None, List, length, drop, take}
use Rattle.packet_heads.specs.Ipv4 as ipv4
use Rattle.packet_heads.specs.Link.{datagram_start}
use Rattle.packet_heads.specs.Tcp as tcp
use Rattle.packet_heads.specs.declared.packets.Endpoint.{Endpoint}
use Rattle.capture_parts.specs.declared.pair.Endpoints.{Endpoints}

-- does a datagram of which these bytes are known name two endpoints? It is one of IPv4 and TCP, and its ports are there
abbrev pub names_endpoints : List ℕ → Bool
names_endpoints datagram =
    not (nat_lt (length datagram) 20) && ipv4.version datagram == 4 && ipv4.protocol datagram == 6
    && not (nat_lt (length datagram) (ipv4.header_length datagram + 4))

-- its sender and its receiver
abbrev pub pair_in : List ℕ → Endpoints
pair_in datagram =
    let segment = drop (ipv4.header_length datagram) datagram in
    record {
      from = record { address = ipv4.source_address datagram; port = tcp.source_port segment };
      to = record { address = ipv4.destination_address datagram; port = tcp.destination_port segment };
    }

-- the endpoints that a packet with this front names, where the link type of the capture is this one
abbrev pub pair_of : ℕ → List ℕ → Option Endpoints
pair_of link front =
    let datagram = drop (datagram_start link front) front in
    if names_endpoints datagram then Some (pair_in datagram) else None

-- address and port, in one number
abbrev pub endpoint_key : Endpoint → ℕ
endpoint_key endpoint = endpoint.address * 65536 + endpoint.port

-- a number that spreads pairs over parts, and is the same for either order of the two; records without a pair are
-- spread by their own numbers
abbrev pub spread : ℕ → Option Endpoints → ℕ
spread number None = number
spread number (Some pair) = (endpoint_key pair.from + endpoint_key pair.to) * 11400714819323198485 % 2 ^ 64 / 2 ^ 32

-- the part of a record of this number with this pair, counted from 0, where there are so many parts
abbrev pub part_of : ℕ → ℕ → Option Endpoints → ℕ
part_of parts number pair = spread number pair % parts

-- so many bytes of a packet name its endpoints: an Ethernet header with a VLAN tag (18), the longest IPv4 header (60)
-- and two ports (4)
abbrev pub front_of : List ℕ → List ℕ
front_of packet = take 82 packet
