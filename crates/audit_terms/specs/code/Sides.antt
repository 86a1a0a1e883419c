-- One of two values, lent to be changed.
use Rattle.std.specs.Borrow.{Lends, MutBor, Fml, RattleType}
use Rattle.audit_terms.specs.declared.sides.Side.{Side}
use Rattle.audit_terms.specs.declared.sides.Side.TheVariants.{Client, Server}
use Rattle.audit_terms.specs.declared.sides.Sides.{Sides}
use Rattle.audit_terms.specs.contracts.sides.Sides.{the_row}

-- both values, with another one of one endpoint
abbrev pub with_side : {A : Type 0} → Side → A → Sides A → Sides A
with_side Client value both = record both { client = value }
with_side Server value both = record both { server = value }

module _ (T : RattleType) where
  -- once the borrow r ends, that endpoint has the last value written through r
  abbrev pub lends_side : MutBor (Sides T.Denot) → Side → MutBor T.Denot → Fml
  lends_side s side r = Lends (the_row T) T s r (λ w. with_side side w s.now)
