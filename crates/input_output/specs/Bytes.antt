-- The bytes of a capture that are kept, and the room that there is for them.
use Rattle.std.specs.Prelude.{ℕ, List}

pub record WithRoom : Type 0 where
  -- the bytes, in order
  pub kept : List ℕ
  -- how many bytes there is memory for
  pub room : ℕ
