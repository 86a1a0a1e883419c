use Rattle.std.proofs.lemmas.Result.{IfOk-weaker}
use Rattle.clap.specs.declared.builder.command.Command.{Command}
use Rattle.split_program.proofs.Numbers.{three_added}
use Rattle.split_program.proofs.command.command.Goals as goal

pub returns : goal.returns
returns c = IfOk-weaker c.args-2.result _ (λ (m : Command). _)
    (λ m added. three_added c.described.result c.parts_option.result c.output_option.result c.file_words.result m
    _ _ _ _ c.described.ensures c.parts_option.ensures.rule
    c.output_option.ensures.rule c.file_words.ensures.rule c.parts_option.ensures.local c.output_option.ensures.local
    c.file_words.ensures.local (rw c.in_ok-arguments.ensures.items at added))
    c.args-2.ensures
