-- What the words of the command line ask for, by what clap finds in them.
use Rattle.std.specs.Prelude.{◌≡◌, ℕ, List, [], Some, option_map, codes, string_bytes}
use Rattle.std.specs.Bool.{Decides}
use Rattle.std.specs.Str.Parse.{IsNumeral, digits_value, without_leading_plus}
use Rattle.clap.specs.Words.{IsAmong, Row, Text, fault_of, first_of, matches_of, one_of}
use Rattle.clap.specs.declared.error.kind.ErrorKind.{ErrorKind}
use Rattle.clap.specs.declared.error.kind.ErrorKind.TheVariants.{DisplayHelp, DisplayVersion}
use Rattle.h2audit.specs.declared.command_line.words.Parsed.{Parsed}
use Rattle.h2audit.specs.declared.command_line.words.Parsed.TheVariants.{Run, Help, Refused, Version}
use Rattle.h2audit.specs.declared.command_line.options.Options.{Options}
use Rattle.h2audit.specs.CommandLine.{app}

-- the word is the number in decimal digits, with a plus sign before it or none
abbrev pub Spells : Text → ℕ → Type 0
Spells word number =
    IsNumeral 10 (without_leading_plus word) × (number ≡ digits_value 10 (without_leading_plus word))

-- the number of this name: the one that its word spells or, where it has none, its default
abbrev pub IsNumberOf : (name : Text) → List Row → ℕ → Type 0
IsNumberOf name found number = (word : Text) × (one_of name found ≡ Some word) × Spells word number

-- the options that were found
pub record IsFound (found : List Row) (options : Options) : Type 0 where
  pub workers : IsNumberOf (codes "workers") found options.workers
  pub groups : IsNumberOf (codes "groups") found options.groups
  pub block : IsNumberOf (codes "block") found options.block
  pub frames_shown : Decides options.frames_shown (one_of (codes "frames") found ≡ Some (codes "true"))

-- what is asked for: an audit where clap finds no fault in the words, with the options and the path that it finds; help
-- or the version where that is what they ask for; why they are refused where they have another fault
abbrev pub Asks : (words : List Text) → Parsed → Type 0
Asks words (Run options file) = (fault_of app words ≡ [])
    × IsFound (matches_of app words) options
    × (option_map string_bytes file ≡ first_of (codes "FILE") (matches_of app words))
Asks words (Help text) = IsAmong DisplayHelp (fault_of app words)
Asks words (Version text) = IsAmong DisplayVersion (fault_of app words)
Asks words (Refused text) =
    (kind : ErrorKind) × IsAmong kind (fault_of app words) × (kind ≡ DisplayHelp → ⊥) × (kind ≡ DisplayVersion → ⊥)
