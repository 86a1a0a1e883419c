use Rattle.std.proofs.Common.{◌∙◌, ap₂}
use Rattle.std.proofs.lemmas.Result.{IfOk-weaker}
use Rattle.clap.specs.declared.builder.command.Command.{Command}
use Rattle.h2audit.proofs.Added.{added}
use Rattle.h2audit.specs.code.Arguments.{with_rules}
use Rattle.h2audit.proofs.command_line.command.command.Goals as goal

pub returns : goal.returns
returns c =
    let arguments = c.in_ok-arguments.ensures in
    IfOk-weaker c.args-2.result _ (λ (m : Command). _)
    (λ m each. added _ _ m arguments.local each ∙ ap₂ with_rules c.bare_command.ensures arguments.rules)
    c.args-2.ensures
