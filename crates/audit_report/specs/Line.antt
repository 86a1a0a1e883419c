-- How a line of the report is spelled: ASCII words with one space between them, numbers in decimal, LF at the end.
use Rattle.std.specs.Prelude.{ℕ, List, ◌++◌, codes}
use Rattle.std.specs.Fmt.{decimal}

-- a text and its line end
abbrev pub line : List ℕ → List ℕ
line text = text ++ codes "\n"

-- a name, with the space after it, and the number that it names
abbrev pub field : List ℕ → ℕ → List ℕ
field name n = name ++ decimal n
