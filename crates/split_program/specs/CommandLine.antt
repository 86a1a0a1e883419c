-- The program's command line, as clap reads it.
use Rattle.std.specs.Prelude.{true, Some, codes, pos}
use Rattle.clap.specs.Lexer.{usize_max}
use Rattle.clap.specs.Simple.{on_top}
use Rattle.clap.specs.Words.{App, Rule, Text, new_app, new_rule, with_rule}
use Rattle.clap.specs.declared.builder.action.ArgAction.TheVariants.{Append, Set}
use Rattle.clap.specs.declared.builder.value_parser.ValueParser.TheVariants as value

-- `--NAME VALUE`, which has to be there
abbrev pub option_rule : (name : Text) → Rule
option_rule name = record (new_rule name) { long = Some name; action = Some Set; value_names = 1; required = true }

-- `h2audit-split --parts N -o DIR [FILE..]`: N is a number from 1 to 500, and `-o` stands for `--output`. There is a
-- version, and the words do not begin with the program's name
abbrev pub app : App
app = with_rule (with_rule (with_rule
    (on_top (λ shape. record shape { has_version = true; no_binary_name = true }) (new_app (codes "h2audit-split")))
    (record (option_rule (codes "parts")) { parser = Some (value.Signed (pos 1) (pos 500)) }))
    (record (option_rule (codes "output")) { short = Some 111 }))
    (record (new_rule (codes "FILE")) {
      action = Some Append;
      range = Some (record { start_inclusive = 0; end_inclusive = usize_max });
    })
