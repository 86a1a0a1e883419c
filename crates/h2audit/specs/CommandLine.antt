-- The program's command line, as clap reads it.
use Rattle.std.specs.Prelude.{ℕ, true, [], ◌∷◌, Some, pos, codes}
use Rattle.clap.specs.Words.{App, Rule, Text, new_app, new_rule, with_rule}
use Rattle.clap.specs.Simple.{on_top}
use Rattle.clap.specs.declared.builder.action.ArgAction.TheVariants.{Set, SetTrue}
use Rattle.clap.specs.declared.builder.value_parser.ValueParser.TheVariants as value

-- `--NAME N`
abbrev pub option_rule : (name : Text) → Rule
option_rule name = record (new_rule name) { long = Some name; action = Some Set; value_names = 1 }

-- the same, a number from 1 to `most`, with a default
abbrev pub number_rule : (name : Text) (most : ℕ) (default : Text) → Rule
number_rule name most default = record (option_rule name) {
  parser = Some (value.Signed (pos 1) (pos most));
  defaults = default ∷ [];
}

-- `--frames`, which takes no value
abbrev pub frames_rule : Rule
frames_rule = record (new_rule (codes "frames")) { long = Some (codes "frames"); action = Some SetTrue }

-- `[FILE]`
abbrev pub file_rule : Rule
file_rule = new_rule (codes "FILE")

-- the command before its arguments: it has a version, and the words do not begin with the program's name
abbrev pub command_start : App
command_start = on_top (λ shape. record shape { has_version = true; no_binary_name = true }) (new_app (codes "h2audit"))

-- the command with the arguments that are numbers
abbrev pub command_with_numbers : App
command_with_numbers =
    with_rule (with_rule (with_rule command_start
    (number_rule (codes "workers") 64 (codes "4")))
    (number_rule (codes "groups") 1024 (codes "16")))
    (number_rule (codes "block") 1048576 (codes "4096"))

-- `h2audit [--workers N] [--groups N] [--block N] [--frames] [FILE]`
abbrev pub app : App
app = with_rule (with_rule command_with_numbers frames_rule) file_rule
