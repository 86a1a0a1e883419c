-- A table whose first line that applies decides. No public clause cites it.
use Rattle.std.specs.Prelude.{Bool, List, [], ◌∷◌, Option, Some, None, if◌then◌else◌}

-- the answer of the first line whose test holds
abbrev pub first_answer : {A : Type 0} → List (Bool × A) → Option A
first_answer [] = None
first_answer (line ∷ later) = if line.0 then Some line.1 else first_answer later
