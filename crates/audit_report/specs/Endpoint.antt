-- How an address and a port are spelled.
use Rattle.std.specs.Prelude.{ℕ, List, ◌++◌, ◌/◌, ◌%◌, codes}
use Rattle.std.specs.Fmt.{decimal}
use Rattle.audit_report.specs.Line.{field}
use Rattle.packet_heads.specs.declared.packets.Endpoint.{Endpoint}

-- an IPv4 address: its four bytes, the highest first, with dots between them (RFC 791)
abbrev pub address_text : ℕ → List ℕ
address_text address = decimal (address / 16777216)
    ++ field (codes ".") (address / 65536 % 256)
    ++ field (codes ".") (address / 256 % 256)
    ++ field (codes ".") (address % 256)

-- `address:port`
abbrev pub endpoint_text : Endpoint → List ℕ
endpoint_text e = address_text e.address ++ field (codes ":") e.port
