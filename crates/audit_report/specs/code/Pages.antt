-- What is added to a page: a text whose room is taken before the first line is put there.
use Rattle.std.specs.Prelude.{◌≡◌, ℕ, ◌+◌, ◌*◌, ◌≤◌, List, ◌++◌, Vec, vec_len, vec_capacity}
use Rattle.std.specs.Global.{Global}

-- a page has room for so many lines
abbrev pub HasRoom : (lines : ℕ) → Vec ℕ Global → Type 0
HasRoom lines page = vec_len page + 512 * lines ≤ vec_capacity page

-- this text, of so many lines, stands at the end of the page now, in the room that there was
pub record Adds (lines : ℕ) (text : List ℕ) (before after : Vec ℕ Global) : Type 0 where
  pub items : after.items ≡ before.items ++ text
  pub len : vec_len after ≤ vec_len before + 512 * lines
  pub capacity : vec_capacity before ≤ vec_capacity after
