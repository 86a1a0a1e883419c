-- The two ends of a connection, as its line has them.
use Rattle.std.specs.Prelude.{ℕ, List, ◌++◌, codes}
use Rattle.audit_report.specs.Endpoint.{endpoint_text}
use Rattle.packet_heads.specs.declared.packets.Endpoint.{Endpoint}

-- ` client ENDPOINT server ENDPOINT`
unfoldable pub roles_text : (client server : Endpoint) → List ℕ
roles_text client server = codes " client " ++ endpoint_text client ++ codes " server " ++ endpoint_text server
