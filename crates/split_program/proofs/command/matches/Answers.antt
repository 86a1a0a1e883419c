use Rattle.std.proofs.Common.{List, true, refl, ◌≡◌, ◌∙◌, ap, map}
use Rattle.std.proofs.lemmas.Result.{IfOk-weaker}
use Rattle.clap.specs.Words.{App, HasMatchesOf, Text, found_of, is_simple, matches_of, rows_of}
use Rattle.clap.specs.declared.parser.matches.ArgMatches.{ArgMatches}
use Rattle.split_program.specs.CommandLine.{app}
use Rattle.split_program.proofs.Numbers.{parts_found}
use Rattle.split_program.proofs.command.matches.Goals as goal

-- what clap says of a command, said of an equal one
rows_of_equal : (a b : App) (words : List Text) (m : ArgMatches) → a ≡ b → is_simple b ≡ true → HasMatchesOf a words m
    → rows_of (found_of m) ≡ matches_of b words
rows_of_equal a b words m is simple taken =
    (taken (ap is_simple is ∙ simple)).0 ∙ ap (λ (x : App). matches_of x words) is

app_simple : is_simple app ≡ true
app_simple = refl

pub returns-clause-rows : goal.returns-clause-rows
returns-clause-rows c =
    let words = map (λ w. w.now) c.args.words.now in
    IfOk-weaker c.try_get_matches_from.result _ _
    (λ m taken. rows_of_equal _ app words m c.in_ok-command.ensures app_simple taken)
    c.try_get_matches_from.ensures.matches

pub returns-clause-parts : goal.returns-clause-parts
returns-clause-parts c = IfOk-weaker c.try_get_matches_from.result _ _
    (λ m parsed. parts_found c.in_ok-command.field-0 m c.in_ok-command.ensures parsed)
    c.try_get_matches_from.ensures.parsed
