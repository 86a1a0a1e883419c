-- What holds of each element of two lists, one after the other.
use Rattle.std.specs.Prelude.{List, [], ◌∷◌, ◌++◌}
use Rattle.std.specs.List.{AllByRecursion}

module _ {X : Type 0} (P : X → Type 0) where
  pub all-front : (a b : List X) → AllByRecursion P (a ++ b) → AllByRecursion P a
  all-front [] b h = tt
  all-front (x ∷ a) b h = (h.0, all-front a b h.1)

  pub all-back : (a b : List X) → AllByRecursion P (a ++ b) → AllByRecursion P b
  all-back [] b h = h
  all-back (x ∷ a) b h = all-back a b h.1
