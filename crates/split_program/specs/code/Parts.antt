-- What the program's own calls keep of clap's matches.
use Rattle.std.specs.Prelude.{◌≡◌, ℕ, pos, Ok, Some, codes}
use Rattle.std.specs.Str.Parse.{ParsesUnsigned}
use Rattle.std.specs.declared.num.ParseIntError.{ParseIntError}
use Rattle.clap.specs.Words.{IsSignedIn, Text, one_of, one_text, rows_of, without_minus}
use Rattle.clap.specs.declared.parser.matches.Found.{Found}

-- a number of parts was found
abbrev pub HasParts : Found → Type 0
HasParts found =
    (text : Text) × (one_text found (codes "parts") ≡ Some (without_minus text)) × IsSignedIn (pos 1) (pos 500) text

-- it is this one
abbrev pub ArePartsOf : Found → ℕ → Type 0
ArePartsOf found parts = (word : Text) × (one_of (codes "parts") (rows_of found) ≡ Some word)
    × ParsesUnsigned {E = ParseIntError} 32 10 word (Ok parts)
