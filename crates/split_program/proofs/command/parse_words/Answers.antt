use Rattle.std.proofs.Common.{map}
use Rattle.split_program.proofs.command.parse_words.Goals as goal

pub returns-in-Err-clause-asked : goal.returns-in-Err-clause-asked
returns-in-Err-clause-asked c = c.unparsed.ensures.asked (map (λ w. w.now) c.args.words.now)
