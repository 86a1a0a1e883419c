-- A value for each endpoint.
use Rattle.audit_terms.specs.declared.sides.Side.{Side}
use Rattle.audit_terms.specs.declared.sides.Side.TheVariants.{Client, Server}
use Rattle.audit_terms.specs.declared.sides.Sides.{Sides}

-- the value of one endpoint
abbrev pub side_of : {A : Type 0} → Side → Sides A → A
side_of Client both = both.client
side_of Server both = both.server

-- the values that a rule gives for each endpoint
abbrev pub each_side : {A : Type 0} → (Side → A) → Sides A
each_side rule = record { client = rule Client; server = rule Server }
