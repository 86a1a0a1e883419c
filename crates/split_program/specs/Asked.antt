-- What the words of the command line ask for, by what clap finds in them.
use Rattle.std.specs.Prelude.{◌≡◌, ⊤, List, Some, Ok, codes}
use Rattle.std.specs.Str.Parse.{ParsesUnsigned}
use Rattle.std.specs.declared.num.ParseIntError.{ParseIntError}
use Rattle.clap.specs.Words.{Text, matches_of, one_of}
use Rattle.split_program.specs.CommandLine.{app}
use Rattle.split_program.specs.declared.asked.Asked.{Asked}
use Rattle.split_program.specs.declared.asked.Asked.TheVariants as asked

-- a split into as many parts as the word of `--parts` spells, or a text to show
abbrev pub Asks : (words : List Text) → Asked → Type 0
Asks words (asked.Split all) = (word : Text) × (one_of (codes "parts") (matches_of app words) ≡ Some word)
    × ParsesUnsigned {E = ParseIntError} 32 10 word (Ok all.parts)
Asks words (asked.Text text) = ⊤
