use Rattle.stream_credit.proofs.Words.{refl}
use Rattle.quiet_pass.proofs.SaidLemmas.{spoken-alone}
use Rattle.quiet_pass.proofs.passes.QuietPass.say_alone.Goals as goal

pub returns : goal.returns
returns c =
    spoken-alone c.of.ensures c.in_ok-say_local_after.ensures refl
    c.in_ok-say_connection.ensures.said c.in_ok-say_connection.ensures.after
