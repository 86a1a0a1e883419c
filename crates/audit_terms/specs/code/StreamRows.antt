-- Rows of streams, one for each.
use Rattle.std.specs.Prelude.{◌≡◌, ℕ, List, Some, slice_get}

-- the row of a stream stands there
pub record IsRowWith {Row : Type 0} (stream_of : Row → ℕ) (rows : List Row) (stream at : ℕ) : Type 0 where
  pub row : Row
  pub there : slice_get rows at ≡ Some row
  pub same : stream_of row ≡ stream
