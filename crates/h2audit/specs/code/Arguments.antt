-- The arguments of the program's command line, as they are added to the command.
use Rattle.std.specs.Prelude.{◌≡◌, false, List, [], ◌∷◌, All, codes, map}
use Rattle.clap.specs.Words.{App, Rule, rule_of, with_rule}
use Rattle.clap.specs.declared.builder.arg.Arg.{Arg}
use Rattle.h2audit.specs.CommandLine.{file_rule, frames_rule, number_rule}

-- their rules, in order
abbrev pub rules : List Rule
rules =
    number_rule (codes "workers") 64 (codes "4") ∷ number_rule (codes "groups") 1024 (codes "16")
    ∷ number_rule (codes "block") 1048576 (codes "4096") ∷ frames_rule ∷ file_rule ∷ []

-- they have these rules, and each is of its own command alone
pub record AreArguments (args : List Arg) : Type 0 where
  pub rules : map rule_of args ≡ rules
  pub local : All (λ (arg : Arg). arg.global ≡ false) args

-- a command with these rules, added one after the other
abbrev pub with_rules : App → List Rule → App
with_rules app [] = app
with_rules app (rule ∷ rules) = with_rules (with_rule app rule) rules
