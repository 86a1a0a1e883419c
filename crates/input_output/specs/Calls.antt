-- The calls of a reader or a writer, by what they answered.
use Rattle.std.specs.Prelude.{◌≡◌, ℕ, List, [], ◌∷◌, ◌++◌}
use Rattle.std.specs.List.{AllByRecursion, flat_map}

-- a read gave these bytes, or a write took them; a flush went well; or the call failed
pub data Call : Type 0 where
  moved : List ℕ → Call
  flushed : Call
  failed : Call

-- the bytes that a call moved
abbrev pub bytes_of : Call → List ℕ
bytes_of (moved bytes) = bytes
bytes_of _ = []

-- those of all calls, in order
abbrev pub bytes_moved : List Call → List ℕ
bytes_moved calls = flat_map bytes_of calls

-- the call moved a byte at least
abbrev pub MovesBytes : Call → Type 0
MovesBytes (moved (byte ∷ bytes)) = Unit {0}
MovesBytes _ = ⊥

-- each call moved bytes, but for these, which came last
abbrev pub EndIn : (last calls : List Call) → Type 0
EndIn last calls = (earlier : List Call) × AllByRecursion MovesBytes earlier × (calls ≡ earlier ++ last)
