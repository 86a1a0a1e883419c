use Rattle.stream_credit.proofs.{RunLemmas.sound-passed, Words.sym, Words.◌∙◌}
use Rattle.stream_credit.proofs.walks.Walk.meet_changes.Goals as goal

pub returns : goal.returns
returns g c = λ run rest starts h. (
  rw (c.pass.ensures, c.initial_at.ensures)
      (sound-passed h starts (sym c.is_live.ensures ∙ c.if-is_live.false) c.passed-met.ensures),
  rw c.pass.ensures c.passed-met.ensures.from,
)
