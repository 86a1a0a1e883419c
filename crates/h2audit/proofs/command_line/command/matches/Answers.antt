use Rattle.std.proofs.Common.{List, true, refl, ◌≡◌, ◌∙◌, ap, map, subst}
use Rattle.std.proofs.lemmas.Result.{IfOk-weaker}
use Rattle.clap.specs.Words.{App, FailsBy, HasMatchesOf, Text, fault_of, found_of, is_simple}
use Rattle.clap.specs.Words.{is_simple_and_free, matches_of, rows_of}
use Rattle.clap.specs.declared.parser.matches.ArgMatches.{ArgMatches}
use Rattle.h2audit.specs.CommandLine.{app}
use Rattle.h2audit.proofs.Numbers.{numbers_found}
use Rattle.h2audit.proofs.command_line.command.matches.Goals as goal

-- what clap says of a command, said of an equal one
rows_of_equal : (a b : App) (words : List Text) (m : ArgMatches) → a ≡ b → is_simple b ≡ true → HasMatchesOf a words m
    → rows_of (found_of m) ≡ matches_of b words
rows_of_equal a b words m is simple taken =
    (taken (ap is_simple is ∙ simple)).0 ∙ ap (λ (x : App). matches_of x words) is

app_simple : is_simple app ≡ true
app_simple = refl

app_free : is_simple_and_free app ≡ true
app_free = refl

pub returns-clause-rows : goal.returns-clause-rows
returns-clause-rows c =
    let words = map (λ w. w.now) c.args.words.now in
    IfOk-weaker c.try_get_matches_from.result _ _
    (λ m taken. rows_of_equal _ app words m c.in_ok-command.ensures app_simple taken)
    c.try_get_matches_from.ensures.matches

pub returns-clause-numbers : goal.returns-clause-numbers
returns-clause-numbers c = IfOk-weaker c.try_get_matches_from.result _ _
    (λ m parsed. numbers_found c.in_ok-command.field-0 m c.in_ok-command.ensures parsed)
    c.try_get_matches_from.ensures.parsed

pub returns-clause-fails : goal.returns-clause-fails
returns-clause-fails c =
    let same = c.in_ok-command.ensures in
    let words = map (λ w. w.now) c.args.words.now in
    subst (λ (a : App). FailsBy (fault_of a words) c.try_get_matches_from.result) same
    (c.try_get_matches_from.ensures.kinds (ap is_simple_and_free same ∙ app_free))
