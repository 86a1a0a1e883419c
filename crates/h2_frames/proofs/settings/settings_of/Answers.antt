use Rattle.h2_frames.proofs.SettingsRead.{with_later-turn}
use Rattle.std.proofs.{Common.arith, Common.◌∙◌, lemmas.Grind.common_steps}
use Rattle.h2_frames.proofs.settings.settings_of.Goals as goal

pub loop-pair-preserved : goal.loop-pair-preserved
loop-pair-preserved c =
    let parts = c.in-Some.ensures.cases in
    with_later-turn c.loop-pair.settings _ _ c.loop-pair.rest.now _ _ parts.0 parts.1 parts.2 c.read.ensures
    c.with_setting-settings.ensures ∙ c.loop-pair.invariant

pub loop-pair-init : goal.loop-pair-init
loop-pair-init c = grind (arith, common_steps)
