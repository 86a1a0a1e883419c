-- How a split ends: which parts are flushed, and whether one is full.
use Rattle.std.specs.Prelude.{◌≡◌, ◌||◌, Bool, false, Option, IsNone, List, [], ◌∷◌, is_some}
use Rattle.std.specs.Global.{Global}
use Rattle.std.specs.Io.Buffered.{writer_buffer}
use Rattle.std.specs.declared.io.buffered.BufWriter.{BufWriter}
use Rattle.capture_parts.specs.declared.part.FullPart.{FullPart}
use Rattle.capture_parts.specs.declared.part.Part.{Part}

-- no byte of a part waits in a buffer: the writers behind them have them all
abbrev pub IsFlushed : {W : Type 0} → Part (BufWriter W Global) → Type 0
IsFlushed part = (writer_buffer part.packets ≡ []) × (writer_buffer part.numbers ≡ [])

-- so it is of a part that is not full
abbrev pub IsFlushedOrFull : {W : Type 0} → Part (BufWriter W Global) → Type 0
IsFlushedOrFull part = IsNone part.full → IsFlushed part

-- is one of these parts full?
abbrev pub has_full : List (Option FullPart) → Bool
has_full [] = false
has_full (part ∷ parts) = is_some part || has_full parts
