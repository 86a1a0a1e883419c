-- Lists in an order, by the test that one element comes after another.
use Rattle.std.specs.Prelude.{Bool, List, [], ◌∷◌, if◌then◌else◌}

-- the list with one more element, before the first that comes after it
abbrev pub put_by : {X : Type 0} → (X → X → Bool) → X → List X → List X
put_by after x [] = x ∷ []
put_by after x (y ∷ ys) = if after x y then y ∷ put_by after x ys else x ∷ y ∷ ys

-- the same elements, in order
abbrev pub ordered_by : {X : Type 0} → (X → X → Bool) → List X → List X
ordered_by after [] = []
ordered_by after (x ∷ xs) = put_by after x (ordered_by after xs)
