use Rattle.tcp_streams.proofs.{Belongings.strays-of-past, Words.sym, Words.◌∙◌}
use Rattle.tcp_streams.proofs.table.Table.into_strays.Goals as goal

pub returns : goal.returns
returns c = λ packets shown. shown.strays_are ∙ sym (strays-of-past packets)
