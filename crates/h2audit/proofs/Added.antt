-- A command to which arguments were added one after the other.
use Rattle.std.proofs.Common.{◌≡◌, false, List, [], ◌∷◌, map, sym, ap, ◌∙◌}
use Rattle.std.specs.List.{All}
use Rattle.std.proofs.lemmas.List.Elements.{All-head, All-tail}
use Rattle.clap.specs.Words.{AddsArg, AddsInTurn, app_of, rule_of}
use Rattle.clap.specs.declared.builder.arg.Arg.{Arg}
use Rattle.clap.specs.declared.builder.command.Command.{Command}
use Rattle.h2audit.specs.code.Arguments.{with_rules}

abbrev IsLocal : Arg → Type 0
IsLocal arg = arg.global ≡ false

-- it has their rules
pub added : (before : Command) (args : List Arg) (after : Command) → All IsLocal args
    → AddsInTurn AddsArg before args after → app_of after ≡ with_rules (app_of before) (map rule_of args)
added before [] after local h = sym (ap app_of h)
added before (arg ∷ args) after local h =
    let first = h.1 in
    added h.0 args after (All-tail IsLocal arg args local) h.2
    ∙ ap (λ app. with_rules app (map rule_of args)) (first.shape (All-head IsLocal arg args local))
