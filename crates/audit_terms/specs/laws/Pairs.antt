-- What holds of each two elements of a list.
use Rattle.std.specs.Prelude.{List, [], ◌∷◌}
use Rattle.std.specs.List.{AllByRecursion}

-- each element stands so to every later one
abbrev pub EachPair : {X : Type 0} → (X → X → Type 0) → List X → Type 0
EachPair related [] = Unit {0}
EachPair related (x ∷ xs) = AllByRecursion (related x) xs × EachPair related xs
