-- The two endpoints of a connection (RFC 9113, 2.2).
use Rattle.std.specs.Prelude.{ℕ, Bool, true, false, List, codes}
use Rattle.audit_terms.specs.declared.sides.Side.{Side}
use Rattle.audit_terms.specs.declared.sides.Side.TheVariants.{Client, Server}

-- the endpoint at the other end
abbrev pub other : Side → Side
other Client = Server
other Server = Client

-- are the two one endpoint?
abbrev pub is_side : Side → Side → Bool
is_side Client Client = true
is_side Client Server = false
is_side Server Client = false
is_side Server Server = true

-- the client stands before the server
abbrev pub side_order : Side → ℕ
side_order Client = 0
side_order Server = 1

-- the word that a report prints
abbrev pub side_name : Side → List ℕ
side_name Client = codes "client"
side_name Server = codes "server"
